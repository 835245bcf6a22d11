-- The words for reading a line, which are those of wrp_fields (this project's profile).
pub use Rattle.wrp_fields.specs.Reading.{is_plain_octet, is_plain, field_of, ◌>>=◌, number_or_fault, name_or_fault, IsReading}
