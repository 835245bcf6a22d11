-- What one read of a plain reader gives, from what the state machine gives.
use Rattle.std.proofs.Common.{◌≡◌, ◌==◌, ◌∙◌, ◌∷◌, [], ℕ, List, Option, Bool, Some, None, refl, true, false, inl, inr}
use Rattle.std.proofs.lemmas.Bool.{cases_Bool, eqb-true}
use Rattle.csv.specs.Machine.{next_record}
use Rattle.csv.specs.Reading.{default_config, has_failed, pending_of, reader_config, reader_state, reader_trim, source_of, ReadRecord, ReadsNext, Ready}
use Rattle.csv.specs.declared.parser.State.{State}
use Rattle.csv.specs.declared.parser.State.TheVariants as st
use Rattle.csv.specs.declared.reader.Reader.{Reader}
use Rattle.csv.specs.declared.reader.Trim.TheVariants as trim
use Rattle.wrp_fields.specs.Block.{after_feed, at_start, IsPlainReader}

after_return : (xs : List ℕ) → next_record default_config st.AfterCr [] [] (10 ∷ xs) ≡ next_record default_config st.StartRecord [] [] xs
unfolding next_record
after_return xs = refl

-- after an LF that ends a line, a text reads as from the start of a record
feed_is : (left y : List ℕ) → after_feed left ≡ Some y → next_record default_config st.AfterCr [] [] left ≡ next_record default_config st.StartRecord [] [] y
feed_is [] y e = cc e
feed_is (b ∷ rest) y e = elim (cases_Bool (b == 10)) [
  | inl same ↦
      let rest_is : rest ≡ y = cc (rw same at e) in
      rw (eqb-true b 10 same, rest_is) (after_return y)
  | inr other ↦ cc (rw other at e)
]

-- what a reader has left, and that it reads it as it would read these octets
abbrev Leaves : State → Option (List ℕ) → List ℕ → Type 0
Leaves s left y = (xs : List ℕ) × (left ≡ Some xs) × (next_record default_config s [] [] xs ≡ next_record default_config st.StartRecord [] [] y)

state_is : (s : State) (left : Option (List ℕ)) (y : List ℕ) → at_start s left ≡ Some y → Leaves s left y
state_is st.StartRecord left y e = (y, e, refl)
state_is st.StartField left y e = cc e
state_is st.InField left y e = cc e
state_is st.InQuoted left y e = cc e
state_is st.AfterQuote left y e = cc e
state_is st.InEscape left y e = cc e
state_is st.InComment left y e = cc e
state_is st.AfterCr None y e = cc e
state_is st.AfterCr (Some xs) y e = (xs, refl, feed_is xs y e)

goes : {R : Type 0} (rem : R → Option (List ℕ)) (a : Reader R) (y : List ℕ) → source_of rem a ≡ Some y → has_failed a ≡ false
goes rem a y e = elim (cases_Bool (has_failed a)) [
  | inl failed ↦ cc (rw failed at e)
  | inr still ↦ still
]

-- the reader is ready for a read, which gives what the machine gives
pub record Standing {R : Type 0} (rem : R → Option (List ℕ)) (a : Reader R) (y : List ℕ) : Type 0 where
  pub left : List ℕ
  pub source : source_of rem a ≡ Some left
  pub reads : next_record default_config (reader_state a) [] [] left ≡ next_record default_config st.StartRecord [] [] y
  pub config : reader_config a ≡ default_config
  pub untrimmed : reader_trim a ≡ trim.None
  pub ready : Ready a

pub standing : {R : Type 0} (rem : R → Option (List ℕ)) (a : Reader R) (y : List ℕ) → IsPlainReader a
    → at_start (reader_state a) (source_of rem a) ≡ Some y → Standing rem a y
standing rem a y plain e =
    let s = state_is (reader_state a) (source_of rem a) y e in
    let p = plain (goes rem a s.0 s.1) in
    record { left = s.0; source = s.1; reads = s.2; config = p.0; untrimmed = p.1; ready = p.3 }

-- what the machine gives next is what the read gave
given : (fields : List (List ℕ)) (s2 : State) (rest : List ℕ) (after : Option (List ℕ)) (found : Bool) (row : List (List ℕ)) (s1 s : State) (xs : List ℕ)
    → next_record default_config s1 [] [] xs ≡ Some (fields, s2, rest)
    → ReadsNext default_config s1 (Some xs) after found row s
    → (found ≡ true) × (row ≡ fields) × (at_start s after ≡ at_start s2 (Some rest))
given fields s2 rest None found row s1 s xs is r = absurd r
given fields s2 rest (Some ys) found row s1 s xs is r =
    let n = rw is at r in
    (n.0, n.1, rw (n.2, n.3) refl)

pub reads_line : {R : Type 0} (rem : R → Option (List ℕ)) (a b : Reader R) (found : Bool) (row : List (List ℕ)) (y : List ℕ) (fields : List (List ℕ)) (s2 : State) (rest : List ℕ)
    → Standing rem a y → next_record default_config st.StartRecord [] [] y ≡ Some (fields, s2, rest) → ReadRecord rem a b found row
    → (found ≡ true) × (row ≡ fields) × (at_start (reader_state b) (source_of rem b) ≡ at_start s2 (Some rest))
reads_line rem a b found row y fields s2 rest at_line is r =
    let g = given fields s2 rest (pending_of (rem b.rdr) b) found row a.state b.state at_line.left (at_line.reads ∙ is) (rw (at_line.config, at_line.source) at r.0) in
    (g.0, g.1, rw r.1 g.2)

none_given : (after : Option (List ℕ)) (found : Bool) (row : List (List ℕ)) (s1 s : State) (xs : List ℕ)
    → next_record default_config s1 [] [] xs ≡ None → ReadsNext default_config s1 (Some xs) after found row s → found ≡ false
none_given None found row s1 s xs is r = absurd r
none_given (Some ys) found row s1 s xs is r = rw is at r

pub reads_end : {R : Type 0} (rem : R → Option (List ℕ)) (a b : Reader R) (found : Bool) (row : List (List ℕ)) (y : List ℕ)
    → Standing rem a y → next_record default_config st.StartRecord [] [] y ≡ None → ReadRecord rem a b found row → found ≡ false
reads_end rem a b found row y at_end is r =
    none_given (pending_of (rem b.rdr) b) found row a.state b.state at_end.left (at_end.reads ∙ is) (rw (at_end.config, at_end.source) at r.0)
