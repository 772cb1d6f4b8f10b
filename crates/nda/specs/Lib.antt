pub mod Lock
pub mod Notice
pub mod Peer
pub mod TextKind
