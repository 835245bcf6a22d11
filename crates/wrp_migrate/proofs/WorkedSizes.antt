-- The texts that are worked out.
use Rattle.std.proofs.Common.{◌≡◌, ℕ, pos, Bool, true, false, List, [], ◌∷◌, ◌++◌, codes, Some, refl, lit<, arith}
use Rattle.std.proofs.ByRecursion.{IsAscii-from_all}
use Rattle.std.proofs.lemmas.Int.{fits_signed_from_abs}
use Rattle.std.proofs.lemmas.Str.{IsUtf8-from_ascii}
use Rattle.std.specs.Fmt.{digits}
use Rattle.std.specs.Int.{w64}
use Rattle.std.specs.Str.{IsUtf8}
use Rattle.toml.proofs.OnLiterals.{toml_on_literals}
use Rattle.toml.specs.Data.{string, integer, array, table, no_items, item, Members, no_members, member}
use Rattle.toml.specs.Parse.{parse_document}
use Rattle.toml.specs.Tables.{Expression}
use Rattle.toml.specs.Text.{IsLineText, IsLinesText, IsValueText, expressions}
use Rattle.toml_writer.specs.Text.{encoding_of, escaped, key_text, needs_escape, quotes_after, string_text}
use Rattle.wrp_caldb.specs.Calibration.{IsAccepted}
use Rattle.wrp_caldb.specs.Database.{database_of}
use Rattle.wrp_calibration_text.specs.Text.{IsTextDue, document_of, number}
use Rattle.wrp_caldb.specs.declared.keys.Others.TheVariants.{Refused}
use Rattle.wrp_caldb.specs.declared.row.Code.TheVariants as co
use Rattle.wrp_migrate.specs.WorkedSizes.{WorkedSizes, empty_text, one_module, one_module_text}
use Rattle.wrp_migrate.proofs.PlainNames.{all_low}
use Rattle.wrp_migrate.proofs.PlainOctets.{AreLow}

-- ---- lines one after another

abbrev AreLines : Bool → List Expression → List (List ℕ) → Type 0
AreLines started [] [] = Unit {0}
AreLines started (e ∷ es) (t ∷ ts) = IsLineText false started e.0 e.1 t × AreLines true es ts
AreLines started _ _ = ⊥

abbrev all_of : List (List ℕ) → List ℕ
all_of [] = []
all_of (t ∷ ts) = t ++ all_of ts

lines_text : (started : Bool) (es : List Expression) (ts : List (List ℕ)) → AreLines started es ts → IsLinesText false started es (all_of ts)
lines_text started [] [] is = refl
lines_text started [] (t ∷ ts) is = absurd is
lines_text started (e ∷ es) [] is = absurd is
lines_text started (e ∷ es) (t ∷ ts) is = (t, all_of ts, refl, is.0, lines_text true es ts is.1)

zero_text : IsValueText false (number 0) (codes "0")
unfolding digits
zero_text = (refl, fits_signed_from_abs w64 (pos 0) (lit< tt))

two_text : IsValueText false (number 2) (codes "2")
unfolding digits
two_text = (refl, fits_signed_from_abs w64 (pos 2) (lit< tt))

-- ---- nothing

empty_read : parse_document [] ≡ Some no_members
unfolding toml_on_literals
empty_read = refl

empty_accepted : IsAccepted Refused no_members
empty_accepted co.UnknownKey = refl
empty_accepted co.Missing = refl
empty_accepted co.Range = refl
empty_accepted co.Twice = refl

empty_due : IsTextDue (database_of no_members) empty_text
unfolding key_text
empty_due =
    lines_text false (expressions (document_of (database_of no_members))) (codes "fibre = []\n" ∷ codes "module = []\n" ∷ codes "version = 2\n" ∷ []) (
      (codes "[]", refl, (codes "]", refl, refl)),
      ((codes "[]", refl, (codes "]", refl, refl)), ((codes "2", refl, two_text), tt)),
    )

-- ---- a module

abbrev one_members : Members
one_members =
    member (codes "module")
    (array (item (table (member (codes "err") (integer (pos 0))
    (member (codes "name") (string (codes "a"))
    (member (codes "rx") (integer (pos 0))
    (member (codes "transition") (integer (pos 0)) (member (codes "tx") (integer (pos 0)) no_members)))))) no_items)) no_members

one_read : parse_document one_module ≡ Some one_members
unfolding toml_on_literals
one_read = refl

one_accepted : IsAccepted Refused one_members
one_accepted co.UnknownKey = refl
one_accepted co.Missing = refl
one_accepted co.Range = refl
one_accepted co.Twice = refl

name_text : IsValueText false (string (codes "a")) (codes "\"a\"")
unfolding string_text encoding_of escaped needs_escape quotes_after
name_text = refl

abbrev one_lines : List (List ℕ)
one_lines =
    codes "fibre = []\n" ∷ codes "version = 2\n" ∷ codes "\n[[module]]\n" ∷ codes "name = \"a\"\n" ∷ codes "\n[[module.pair]]\n" ∷ codes "err = 0\n"
    ∷ codes "rx = 0\n" ∷ codes "rx_nm = 0\n" ∷ codes "transition = 0\n" ∷ codes "tx = 0\n" ∷ codes "tx_nm = 0\n" ∷ []

one_due : IsTextDue (database_of one_members) one_module_text
unfolding key_text
one_due =
    lines_text false (expressions (document_of (database_of one_members))) one_lines (
      (codes "[]", refl, (codes "]", refl, refl)),
      (
        (codes "2", refl, two_text),
        (
          refl,
          (
            (codes "\"a\"", refl, name_text),
            (
              refl,
              (
                (codes "0", refl, zero_text),
                (
                  (codes "0", refl, zero_text),
                  ((codes "0", refl, zero_text), ((codes "0", refl, zero_text), ((codes "0", refl, zero_text), ((codes "0", refl, zero_text), tt)))),
                ),
              ),
            ),
          ),
        ),
      ),
    )

-- ---- the texts

utf8 : (text : List ℕ) → AreLow text → IsUtf8 text
utf8 text low = IsUtf8-from_ascii text (IsAscii-from_all text low)

pub worked_sizes : WorkedSizes
worked_sizes = record {
  empty = (refl, (omega arith, record { db = database_of no_members; read = (no_members, (utf8 [] tt, empty_read), empty_accepted, refl); due = empty_due }));
  empty_octets = refl;
  empty_most = refl;
  one = (
    refl,
    (
      omega arith,
      record {
        db = database_of one_members;
        read = (one_members, (utf8 one_module (all_low one_module refl), one_read), one_accepted, refl);
        due = one_due;
      },
    ),
  );
  one_octets = refl;
  one_text_octets = refl;
  one_most = refl;
}
