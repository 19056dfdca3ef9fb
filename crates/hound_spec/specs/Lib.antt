-- The words of this crate, for those above it. The file is made by `scripts/make_words.py`.
pub use Rattle.hound_spec.specs.Header.{Extension, FmtFields, IsPair, IsWritable, canonical, data_start, data_tag, extended, extensible, extension, extension_bytes, extension_size, fields, fmt_bytes, fmt_fields, fmt_tag, greatest_u16, greatest_u32, guid, ieee_float, is_pair, is_short, long_fmt, mask, padded, padding, pairs, pcm, riff_size, riff_tag, short_fmt, subformat, wave_tag, with_default_width}
unfoldable pub use Rattle.hound_spec.specs.Header.{header, sized_fmt}
pub mod Header
