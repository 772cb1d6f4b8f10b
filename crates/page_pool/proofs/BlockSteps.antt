-- What the proofs of a block's functions share.
pub mod Form
pub mod Shows
pub mod Steps
