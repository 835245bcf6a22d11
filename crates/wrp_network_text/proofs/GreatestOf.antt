-- The greatest numbers that are kept entry by entry are the greatest of all entries.
use Rattle.std.proofs.Common.{◌≡◌, ◌++◌, ℕ, List, [], ◌∷◌, map, max, fold, refl, sym, ap, ◌∙◌}
use Rattle.std.proofs.lemmas.List.Sums.{fold-append}
use Rattle.std.specs.List.{flat_map}
use Rattle.wrp_base.specs.declared.link.Module.{Module}
use Rattle.wrp_caldb.specs.Database.{ModuleAt}
use Rattle.wrp_caldb.specs.declared.database.Entry.{Entry}
use Rattle.wrp_network_text.specs.Greatest.{raised, over_entries, over_modules}
use Rattle.wrp_network_text.specs.declared.greatest.Greatest.{Greatest}

-- a part that is kept is the greatest of that part
pub record IsKept (pick : Greatest → ℕ) (part : Module → ℕ) : Type 0 where
  pub more : (g : Greatest) (delays : Module) → pick (raised g delays) ≡ max (pick g) (part delays)

abbrev parts : (Module → ℕ) → List Entry → List ℕ
parts part entries = map part (map (λ entry. entry.delays) entries)

of_entries : (pick : Greatest → ℕ) (part : Module → ℕ) → IsKept pick part → (g : Greatest) (entries : List Entry)
    → pick (over_entries g entries) ≡ fold max (pick g) (parts part entries)
of_entries pick part kept g [] = refl
of_entries pick part kept g (entry ∷ entries) =
    of_entries pick part kept (raised g entry.delays) entries
    ∙ ap (λ n. fold max n (parts part entries)) (kept.more g entry.delays)

parts-append : (part : Module → ℕ) (xs ys : List Entry) → parts part (xs ++ ys) ≡ parts part xs ++ parts part ys
parts-append part [] ys = refl
parts-append part (x ∷ xs) ys = ap (λ rest. part x.delays ∷ rest) (parts-append part xs ys)

pub of_modules : (pick : Greatest → ℕ) (part : Module → ℕ) → IsKept pick part → (g : Greatest) (modules : List ModuleAt)
    → pick (over_modules g modules) ≡ fold max (pick g) (parts part (flat_map (λ m. m.entries) modules))
of_modules pick part kept g [] = refl
of_modules pick part kept g (m ∷ ms) =
    let rest = parts part (flat_map (λ n. n.entries) ms) in
    of_modules pick part kept (over_entries g m.entries) ms
    ∙ ap (λ n. fold max n rest) (of_entries pick part kept g m.entries)
    ∙ sym (ap (fold max (pick g)) (parts-append part m.entries (flat_map (λ n. n.entries) ms)) ∙ fold-append max (pick g) (parts part m.entries) rest)
