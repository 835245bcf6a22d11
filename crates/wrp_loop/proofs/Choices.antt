-- There is only one choice among frames.
use Rattle.std.proofs.Common.{◌≡◌, ◌∙◌, refl, ap, sym, ℕ, inl, inr, Bool, Option, None, Some, arith}
use Rattle.std.proofs.lemmas.Bool.{cases_lt}
use Rattle.wrp_base.proofs.Booleans.{not_both}
use Rattle.wrp_course.specs.Run.{world_after}
use Rattle.wrp_loop.specs.Datagrams.{Chooses, IsChoice, IsSuch, handed_in}
use Rattle.wrp_loop.specs.Laws.{OneFrame}

same_choice : (Such : ℕ → Type 0) (handed : ℕ → Bool) (a b : ℕ) → IsChoice Such handed a → IsChoice Such handed b → a ≡ b
same_choice Such handed a b h k =
    elim h.which [
      | inl ha ↦ elim k.which [
        | inl hb ↦ elim (cases_lt a b) [
          | inl less ↦ absurd (not_both (handed a) (hb.1 a h.such less) ha.0)
          | inr more ↦ elim (cases_lt b a) [
            | inl less ↦ absurd (not_both (handed b) (ha.1 b k.such less) hb.0)
            | inr same ↦ omega (arith, more, same)
          ]
        ]
        | inr hb ↦ absurd (not_both (handed a) (hb a h.such).0 ha.0)
      ]
      | inr ha ↦ elim k.which [
        | inl hb ↦ absurd (not_both (handed b) (ha b k.such).0 hb.0)
        | inr hb ↦ omega (arith, (ha b k.such).1, (hb a h.such).1)
      ]
    ]

pub one_chosen : (Such : ℕ → Type 0) (handed : ℕ → Bool) (a b : Option ℕ) → Chooses Such handed a → Chooses Such handed b → a ≡ b
one_chosen Such handed None None h k = refl
one_chosen Such handed None (Some b) h k = absurd (h b k.such)
one_chosen Such handed (Some a) None h k = absurd (k a h.such)
one_chosen Such handed (Some a) (Some b) h k = ap Some (same_choice Such handed a b h k)

pub one_frame : OneFrame
one_frame s events way octets a b h k = one_chosen (IsSuch s (world_after s events) way octets) (handed_in events) a b h k

-- which frames were handed over matters only for those that are such
pub choice_same : (Such : ℕ → Type 0) (h k : ℕ → Bool) (found : Option ℕ) → ((i : ℕ) → Such i → h i ≡ k i) → Chooses Such h found → Chooses Such k found
choice_same Such h k None same c = c
choice_same Such h k (Some i) same c = record {
  such = c.such;
  which = elim c.which [
    | inl least ↦ inl (sym (same i c.such) ∙ least.0, λ j s less. sym (same j s) ∙ least.1 j s less)
    | inr greatest ↦ inr (λ j s. (sym (same j s) ∙ (greatest j s).0, (greatest j s).1))
  ];
}

-- and the frames that are such may be described in other words
pub choice_of : (Such Others : ℕ → Type 0) (handed : ℕ → Bool) (found : Option ℕ) → ((i : ℕ) → Such i → Others i) → ((i : ℕ) → Others i → Such i) → Chooses Such handed found → Chooses Others handed found
choice_of Such Others handed None to from c = λ j o. c j (from j o)
choice_of Such Others handed (Some i) to from c = record {
  such = to i c.such;
  which = elim c.which [
    | inl least ↦ inl (least.0, λ j o less. least.1 j (from j o) less)
    | inr greatest ↦ inr (λ j o. greatest j (from j o))
  ];
}
