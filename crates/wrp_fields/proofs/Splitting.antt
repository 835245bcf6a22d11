-- What the state machine of `csv` gives for lines of plain octets.
use Rattle.std.proofs.Common.{◌≡◌, ◌==◌, ◌++◌, ◌∷◌, ◌∙◌, [], ℕ, List, Some, None, refl, ap, false, append_assoc, inl, inr, arith}
use Rattle.std.specs.List.{onto_first, AllByRecursion}
use Rattle.std.proofs.lemmas.List.{append-nil}
use Rattle.std.proofs.lemmas.Bool.{cases_Bool, ne_eqb}
use Rattle.csv.specs.Machine.{next_record}
use Rattle.csv.specs.Reading.{default_config, strip_bom}
use Rattle.csv.specs.declared.parser.State.{State}
use Rattle.csv.specs.declared.parser.State.TheVariants as st
use Rattle.csv.proofs.RoundTrip.{start-same, record-same}
use Rattle.wrp_base.specs.Lines.{parts_of}
use Rattle.wrp_fields.specs.Lines.{IsLine, IsPlainOctet}
use Rattle.wrp_fields.specs.Block.{StartsPlain}

-- the first part, with these octets before it
abbrev onto : List ℕ → List (List ℕ) → List (List ℕ)
onto field [] = field ∷ []
onto field (part ∷ rest) = (field ++ part) ∷ rest

onto-first : (x : ℕ) (ps : List (List ℕ)) → onto [] (onto_first x ps) ≡ onto_first x ps
onto-first x [] = refl
onto-first x (p ∷ ps) = refl

onto-nil : (xs : List ℕ) → onto [] (parts_of xs) ≡ parts_of xs
onto-nil [] = refl
onto-nil (x ∷ xs) = elim (cases_Bool (x == 44)) [
  | inl same ↦ rw same refl
  | inr other ↦ rw other (onto-first x (parts_of xs))
]

onto-more : (field : List ℕ) (x : ℕ) (ps : List (List ℕ)) → onto (field ++ x ∷ []) ps ≡ onto field (onto_first x ps)
onto-more field x [] = refl
onto-more field x (p ∷ ps) = ap (λ (f : List ℕ). f ∷ ps) (append_assoc field (x ∷ []) p)

-- these octets end a field and its record, and lead to a state and the rest
abbrev EndsRecord : List ℕ → State → List ℕ → Type 0
EndsRecord tail after rest = (fields : List (List ℕ)) (field : List ℕ)
    → next_record default_config st.InField fields field tail ≡ Some (fields ++ (field ∷ []), after, rest)

-- and they do the same at the start of a field
abbrev EndsEmpty : List ℕ → Type 0
EndsEmpty tail = (fields : List (List ℕ))
    → next_record default_config st.StartField fields [] tail ≡ next_record default_config st.InField fields [] tail

start_same : (fields : List (List ℕ)) (xs tail : List ℕ) → EndsEmpty tail → AllByRecursion IsPlainOctet xs
    → next_record default_config st.StartField fields [] (xs ++ tail) ≡ next_record default_config st.InField fields [] (xs ++ tail)
start_same fields [] tail empty plain = empty fields
start_same fields (x ∷ xs) tail empty plain = start-same fields [] x (xs ++ tail) plain.0.0

in_field : (fields : List (List ℕ)) (field xs tail : List ℕ) (after : State) (rest : List ℕ) → EndsRecord tail after rest → EndsEmpty tail → AllByRecursion IsPlainOctet xs
    → next_record default_config st.InField fields field (xs ++ tail) ≡ Some ((fields ++ onto field (parts_of xs), after, rest))
unfolding next_record
in_field fields field [] tail after rest ends empty plain = rw (append-nil field) (ends fields field)
in_field fields field (x ∷ xs) tail after rest ends empty plain = elim (cases_Bool (x == 44)) [
  | inl comma ↦
      let after_comma : Some (((fields ++ (field ∷ [])) ++ onto [] (parts_of xs), after, rest)) ≡ Some ((fields ++ ((field ++ []) ∷ parts_of xs), after, rest)) =
      rw (onto-nil xs, append-nil field) (ap (λ (ps : List (List ℕ)). Some ((ps, after, rest))) (append_assoc fields (field ∷ []) (parts_of xs))) in
      rw comma (start_same (fields ++ (field ∷ [])) xs tail empty plain.1 ∙ in_field (fields ++ (field ∷ [])) [] xs tail after rest ends empty plain.1 ∙ after_comma)
  | inr other ↦
      rw (other, plain.0.1, plain.0.2) (in_field fields (field ++ x ∷ []) xs tail after rest ends empty plain.1
      ∙ ap (λ (ps : List (List ℕ)). Some ((fields ++ ps, after, rest))) (onto-more field x (parts_of xs)))
]

ends_at : (line tail : List ℕ) (after : State) (rest : List ℕ) → EndsRecord tail after rest → EndsEmpty tail → IsLine line
    → next_record default_config st.StartRecord [] [] (line ++ tail) ≡ Some ((parts_of line, after, rest))
ends_at [] tail after rest ends empty is = absurd (is.0 refl)
ends_at (x ∷ xs) tail after rest ends empty is =
    let plain = is.1 in
    record-same [] [] x (xs ++ tail) plain.0.1 plain.0.2 ∙ start-same [] [] x (xs ++ tail) plain.0.0 ∙ in_field [] [] (x ∷ xs) tail after rest ends empty plain
    ∙ ap (λ (fields : List (List ℕ)). Some ((fields, after, rest))) (onto-nil (x ∷ xs))

feed_ends : (rest : List ℕ) → EndsRecord (10 ∷ rest) st.StartRecord rest
unfolding next_record
feed_ends rest fields field = refl

feed_empty : (rest : List ℕ) → EndsEmpty (10 ∷ rest)
unfolding next_record
feed_empty rest fields = refl

return_ends : (rest : List ℕ) → EndsRecord (13 ∷ 10 ∷ rest) st.AfterCr (10 ∷ rest)
unfolding next_record
return_ends rest fields field = refl

return_empty : (rest : List ℕ) → EndsEmpty (13 ∷ 10 ∷ rest)
unfolding next_record
return_empty rest fields = refl

end_ends : EndsRecord [] st.StartRecord []
unfolding next_record
end_ends fields field = refl

end_empty : EndsEmpty []
unfolding next_record
end_empty fields = refl

-- a line with its LF is one record, of its parts
pub first_line : (line rest : List ℕ) → IsLine line
    → next_record default_config st.StartRecord [] [] (line ++ 10 ∷ rest) ≡ Some (parts_of line, st.StartRecord, rest)
first_line line rest is = ends_at line (10 ∷ rest) st.StartRecord rest (feed_ends rest) (feed_empty rest) is

-- and the same for a line with a CR and its LF
pub return_line : (line rest : List ℕ) → IsLine line
    → next_record default_config st.StartRecord [] [] (line ++ 13 ∷ 10 ∷ rest) ≡ Some (parts_of line, st.AfterCr, 10 ∷ rest)
return_line line rest is = ends_at line (13 ∷ 10 ∷ rest) st.AfterCr (10 ∷ rest) (return_ends rest) (return_empty rest) is

-- and the same for a line at the end of the text
pub last_line : (line : List ℕ) → IsLine line
    → next_record default_config st.StartRecord [] [] line ≡ Some (parts_of line, st.StartRecord, [])
last_line line is = rw (append-nil line) at (ends_at line [] st.StartRecord [] end_ends end_empty is)

-- there is no record in no octets
pub no_line : next_record default_config st.StartRecord [] [] [] ≡ None
unfolding next_record
no_line = refl

-- octets that begin below 128 do not begin with the mark that `csv` drops
pub strip_plain : (xs : List ℕ) → StartsPlain xs → strip_bom xs ≡ xs
unfolding strip_bom
strip_plain [] plain = refl
strip_plain (a ∷ []) plain = refl
strip_plain (a ∷ b ∷ []) plain = refl
strip_plain (a ∷ b ∷ c ∷ rest) plain =
    let other : (a == 0xEF) ≡ false = ne_eqb a 0xEF (λ e. omega arith) in
    rw other refl
