use Rattle.field_codec.proofs.Fields.{u8_field, u16_field, u32_field, u64_field, i32_field, i64_field, i128_field, flag_field, count_field, text_field, bytes_field}
use Rattle.field_codec.proofs.law.fields_round_trip.Goals as goal

pub returns : goal.returns
returns c = record {
  u8 = u8_field;
  u16 = u16_field;
  u32 = u32_field;
  u64 = u64_field;
  i32 = i32_field;
  i64 = i64_field;
  i128 = i128_field;
  flag = flag_field;
  count = count_field;
  text = text_field;
  bytes = bytes_field;
}
