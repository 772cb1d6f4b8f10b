use Rattle.field_codec.specs.declared.fault.FieldFault.{FieldFault}
use Rattle.field_codec.specs.declared.fault.FieldFault.TheVariants as fields
use Rattle.link_frames.specs.declared.fault.FrameFault.{FrameFault}
use Rattle.link_frames.specs.declared.fault.FrameFault.TheVariants as frames

-- why there is no frame, where its fields cannot be read for this reason
abbrev pub frame_fault : FieldFault → FrameFault
frame_fault fields.Short = frames.BadFrame
frame_fault fields.Range = frames.BadFrame
frame_fault fields.NotText = frames.BadFrame
frame_fault fields.Memory = frames.Memory
