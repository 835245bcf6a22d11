-- Each reason is the reason with its number.
use Rattle.std.proofs.Common.{◌≡◌, refl}
use Rattle.wrp_data.specs.declared.reason.Reason.{Reason}
use Rattle.wrp_data.specs.declared.reason.Reason.TheVariants.{Short, Version, Kind, Length, Time, Tlv, BadWr, OneStep, Domain, Stranger, NotForUs, Quiet, Unmatched, Range, Sample}
use Rattle.wrp_data.specs.Reason.{name_of, number_of}
use Rattle.wrp_lines.specs.Words.{reason_word}

-- the number of a reason is written as its name
pub word_of_number : (reason : Reason) → reason_word (number_of reason) ≡ name_of reason
unfolding reason_word
word_of_number Short = refl
word_of_number Version = refl
word_of_number Kind = refl
word_of_number Length = refl
word_of_number Time = refl
word_of_number Tlv = refl
word_of_number BadWr = refl
word_of_number OneStep = refl
word_of_number Domain = refl
word_of_number Stranger = refl
word_of_number NotForUs = refl
word_of_number Quiet = refl
word_of_number Unmatched = refl
word_of_number Range = refl
word_of_number Sample = refl
