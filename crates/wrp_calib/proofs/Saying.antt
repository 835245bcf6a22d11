-- What lines say, line by line: one more line, the lines before one of them, and that they say one list of records.
use Rattle.std.proofs.Common.{◌≡◌, ℕ, ◌+◌, List, [], ◌∷◌, ◌++◌, length, Ok, refl, sym, ap₂, ◌∙◌, subst, arith}
use Rattle.wrp_calib.specs.Lines.{CalibRecord, record_read}
use Rattle.wrp_calib.specs.Recorded.{SayFrom, Say}

-- one more line
more : (number : ℕ) (lines : List (List ℕ)) (records : List CalibRecord) (line : List ℕ) (said : CalibRecord) (n : ℕ)
    → n ≡ length lines + number → SayFrom number lines records → record_read n line ≡ Ok said
    → SayFrom number (lines ++ line ∷ []) (records ++ said ∷ [])
more number [] [] line said n is say reads = (subst (λ (k : ℕ). record_read k line ≡ Ok said) (let e : n ≡ number = omega arith in e) reads, tt)
more number [] (r ∷ rs) line said n is say reads = absurd say
more number (l ∷ ls) [] line said n is say reads = absurd say
more number (l ∷ ls) (r ∷ rs) line said n is say reads = (say.0, more (number + 1) ls rs line said n (omega arith) say.1 reads)

pub say_more : (lines : List (List ℕ)) (records : List CalibRecord) (line : List ℕ) (said : CalibRecord)
    → Say lines records → record_read (length lines + 1) line ≡ Ok said → Say (lines ++ line ∷ []) (records ++ said ∷ [])
say_more lines records line said say reads = more 1 lines records line said (length lines + 1) refl say reads

-- as many records as lines
as_many_from : (number : ℕ) (lines : List (List ℕ)) (records : List CalibRecord) → SayFrom number lines records → length records ≡ length lines
as_many_from number [] [] say = refl
as_many_from number [] (r ∷ rs) say = absurd say
as_many_from number (l ∷ ls) [] say = absurd say
as_many_from number (l ∷ ls) (r ∷ rs) say = let rest = as_many_from (number + 1) ls rs say.1 in omega arith

pub as_many : (lines : List (List ℕ)) (records : List CalibRecord) → Say lines records → length records ≡ length lines
as_many lines records say = as_many_from 1 lines records say

-- lines say one list of records
once_from : (number : ℕ) (lines : List (List ℕ)) (a b : List CalibRecord) → SayFrom number lines a → SayFrom number lines b → a ≡ b
once_from number [] [] [] p q = refl
once_from number [] (r ∷ rs) b p q = absurd p
once_from number [] [] (r ∷ rs) p q = absurd q
once_from number (l ∷ ls) [] b p q = absurd p
once_from number (l ∷ ls) (r ∷ rs) [] p q = absurd q
once_from number (l ∷ ls) (r ∷ rs) (s ∷ ss) p q =
    let e : Ok r ≡ Ok s = sym p.0 ∙ q.0 in
    let first : r ≡ s = cc in
    ap₂ (λ (x : CalibRecord) (xs : List CalibRecord). x ∷ xs) first (once_from (number + 1) ls rs ss p.1 q.1)

pub said_once : (lines : List (List ℕ)) (a b : List CalibRecord) → Say lines a → Say lines b → a ≡ b
said_once lines a b p q = once_from 1 lines a b p q

-- a line among others says a record by its number
among : (number : ℕ) (before behind : List (List ℕ)) (line : List ℕ) (records : List CalibRecord) (n : ℕ) → n ≡ length before + number
    → SayFrom number (before ++ line ∷ behind) records → (said : CalibRecord) × (record_read n line ≡ Ok said)
among number [] behind line [] n is say = absurd say
among number [] behind line (r ∷ rs) n is say = (r, subst (λ (k : ℕ). record_read k line ≡ Ok r) (let e : number ≡ n = omega arith in e) say.0)
among number (l ∷ ls) behind line [] n is say = absurd say
among number (l ∷ ls) behind line (r ∷ rs) n is say = among (number + 1) ls behind line rs n (omega arith) say.1

pub says_among : (before behind : List (List ℕ)) (line : List ℕ) (records : List CalibRecord) → Say (before ++ line ∷ behind) records
    → (said : CalibRecord) × (record_read (length before + 1) line ≡ Ok said)
says_among before behind line records say = among 1 before behind line records (length before + 1) refl say
