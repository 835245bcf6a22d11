-- The line of an input is one word: it has no space. What holds of each line of one word holds of each line that an emission
-- prints of events.
use Rattle.std.proofs.Common.{◌≡◌, refl, sym, subst, append_assoc, ℕ, ◌==◌, not, Bool, true, false, find, if◌then◌else◌, List, [], ◌∷◌, ◌++◌, flat_map, Option, None, Some, option_map, codes, ◌∙◌}
use Rattle.std.specs.Prelude.{unwrap_or}
use Rattle.std.specs.List.{AllByRecursion, join_with_byte, list_all}
use Rattle.std.proofs.lemmas.Bool.{and_from, and_parts}
use Rattle.std.proofs.lemmas.List.Folds.{list_all-append}
use Rattle.byteorder.specs.Endian.{big_bytes}
use Rattle.wrp_base.specs.declared.link.Module.{Module}
use Rattle.wrp_base.proofs.Lists.{found_at}
use Rattle.wrp_caldb.specs.Database.{Database, ModuleAt}
use Rattle.wrp_caldb.specs.Name.{is_name, same_name}
use Rattle.wrp_config.specs.Accepted.{IsSoundDatabase}
use Rattle.wrp_course.specs.Given.{NodeStepAt}
use Rattle.wrp_course.specs.Run.{Happened, steps_at}
use Rattle.wrp_course.specs.Setting.{Setting}
use Rattle.wrp_node.specs.declared.interface.Input.{Input}
use Rattle.wrp_node.specs.declared.interface.Input.TheVariants.{Tick, Sample, Frame, Sent, Carrier, Reset}
use Rattle.wrp_records.specs.Lines.{lines_of}
use Rattle.wrp_records.proofs.Feeds.{lines_of-whole}
use Rattle.wrp_trace.specs.LineSetting.{LineSetting, has_values, line_setting_in, module_of}
use Rattle.wrp_trace.specs.Printing.{line_of as input_line, message_text, module_text, texts_of}
use Rattle.wrp_audit.specs.AuditText.{given_line, given_lines}
use Rattle.wrp_records.specs.Words.{IsWord, is_word_octet}
use Rattle.wrp_lines.proofs.LineWords.{hex_word, name_word}
use Rattle.wrp_records.proofs.WordLemmas.{AreWords, decimal_word, signed_word, word_plain}

-- Words

pub word_append : (a b : List ℕ) → IsWord a → IsWord b → IsWord (a ++ b)
word_append a b h k = list_all-append is_word_octet a b ∙ and_from (list_all is_word_octet a) (list_all is_word_octet b) h k

pub joined_word : (texts : List (List ℕ)) → AreWords texts → IsWord (join_with_byte 44 texts)
joined_word [] h = refl
joined_word (text ∷ []) h = h.0
joined_word (text ∷ next ∷ texts) h = word_append text (44 ∷ join_with_byte 44 (next ∷ texts)) h.0 (joined_word (next ∷ texts) h.1)

-- Fields

module_word : (db : Database) (test : ModuleAt → Bool) (o : Option ModuleAt) → IsSoundDatabase db → find test db.modules ≡ o
    → IsWord (unwrap_or (option_map (λ (m : ModuleAt). m.name) o) [])
module_word db test None sound e = refl
module_word db test (Some m) sound e =
    let at = found_at test db.modules m e in
    name_word m.name (and_parts (is_name m.name) (not (same_name m.name (codes "unlisted"))) (sound.modules at.0 m at.1).name).0

entry_word : (site : LineSetting) (port : ℕ) (entry : Option Module) → IsSoundDatabase site.db → IsWord (module_text site port entry)
entry_word site port None sound = refl
entry_word site port (Some values) sound =
    module_word site.db (λ (m : ModuleAt). has_values values (module_of site port m.name))
    (find (λ (m : ModuleAt). has_values values (module_of site port m.name)) site.db.modules) sound refl

message_word : (delay : Bool) → IsWord (message_text delay)
message_word true = refl
message_word false = refl

texts_are : (site : LineSetting) (x : Input) → IsSoundDatabase site.db → AreWords (texts_of site x)
texts_are site Tick sound = (refl, tt)
texts_are site (Sample n base bits) sound = (refl, (decimal_word n, (decimal_word base, (hex_word (big_bytes 8 bits), tt))))
texts_are site (Frame port octets raw sample) sound = (
  refl,
  (
    decimal_word port,
    (
      hex_word octets.items,
      (decimal_word raw.rising, (decimal_word raw.falling, (decimal_word raw.tag, (decimal_word sample, tt)))),
    ),
  ),
)
texts_are site (Sent port seq delay stamp) sound =
    (refl, (decimal_word port, (message_word delay, (decimal_word seq, (signed_word stamp.value, (decimal_word stamp.sample, tt))))))
texts_are site (Carrier port true entry) sound = (refl, (decimal_word port, (entry_word site port entry sound, tt)))
texts_are site (Carrier port false entry) sound = (refl, (decimal_word port, tt))
texts_are site Reset sound = (refl, tt)

input_word : (site : LineSetting) (x : Input) → IsSoundDatabase site.db → IsWord (input_line site x)
input_word site x sound = joined_word (texts_of site x) (texts_are site x sound)

-- Texts in front of others

-- if something holds of each line after a text, it holds of the text's lines too
abbrev pub Passes : (List ℕ → Type 0) → List ℕ → Type 0
Passes P octets = (rest : List ℕ) → AllByRecursion P (lines_of rest) → AllByRecursion P (lines_of (octets ++ rest))

-- something holds of each line of one word
abbrev pub HoldsOfWords : (List ℕ → Type 0) → Type 0
HoldsOfWords P = (w : List ℕ) → IsWord w → P (w ++ 10 ∷ [])

pub pass_both : (P : List ℕ → Type 0) (a b : List ℕ) → Passes P a → Passes P b → Passes P (a ++ b)
pass_both P a b p q rest h = subst (λ (l : List ℕ). AllByRecursion P (lines_of l)) (sym (append_assoc a b rest)) (p (b ++ rest) (q rest h))

pub pass_line : (P : List ℕ → Type 0) → HoldsOfWords P → (w : List ℕ) → IsWord w → Passes P (w ++ 10 ∷ [])
pass_line P of_word w h rest k = subst (AllByRecursion P) (sym (lines_of-whole w rest (word_plain w h))) (of_word w h, k)

pass_where : (P : List ℕ → Type 0) (b : Bool) (text : List ℕ) → Passes P text → Passes P (if b then text else [])
pass_where P true text h = h
pass_where P false text h = λ rest k. k

pass_step : (P : List ℕ → Type 0) → HoldsOfWords P → (s : Setting) (n : ℕ) (step : NodeStepAt) → IsSoundDatabase s.db → Passes P (given_line s n step)
pass_step P of_word s n step sound =
    pass_where P (step.node == n) (input_line (line_setting_in s n) step.input ++ 10 ∷ [])
    (pass_line P of_word (input_line (line_setting_in s n) step.input) (input_word (line_setting_in s n) step.input sound))

pass_steps : (P : List ℕ → Type 0) → HoldsOfWords P → (s : Setting) (n : ℕ) (steps : List NodeStepAt) → IsSoundDatabase s.db
    → Passes P (flat_map (given_line s n) steps)
pass_steps P of_word s n [] sound = λ rest k. k
pass_steps P of_word s n (step ∷ steps) sound =
    pass_both P (given_line s n step) (flat_map (given_line s n) steps) (pass_step P of_word s n step sound) (pass_steps P of_word s n steps sound)

-- the lines of the inputs that events give a node
pub pass_events : (P : List ℕ → Type 0) → HoldsOfWords P → (s : Setting) (n : ℕ) (events : List Happened) → IsSoundDatabase s.db
    → Passes P (given_lines s n events)
pass_events P of_word s n [] sound = λ rest k. k
pass_events P of_word s n (h ∷ before) sound =
    pass_both P (given_lines s n before) (flat_map (given_line s n) (steps_at s before h)) (pass_events P of_word s n before sound)
    (pass_steps P of_word s n (steps_at s before h) sound)
