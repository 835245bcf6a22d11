-- The worked handshake is one that can be, and the exchanged history refutes it.
use Rattle.std.proofs.Common.{◌≡◌, ◌⊎◌, inl, inr, refl, sym, subst, ℤ, pos, List, [], ◌∷◌, ◌++◌, map, arith}
use Rattle.std.proofs.lemmas.Int.{ints}
use Rattle.wrp_base.specs.declared.link.LinkState.{LinkState}
use Rattle.wrp_base.specs.declared.link.LinkState.TheVariants.{MLock, Calibration, Calibrated, RespCalib, LinkOn}
use Rattle.wrp_base.specs.declared.link.Mark.{Mark}
use Rattle.wrp_base.specs.declared.link.Role.TheVariants.{Slave}
use Rattle.wrp_check.specs.Handshake.{SameHandshake}
use Rattle.wrp_check.specs.Stretches.{Entered}
use Rattle.wrp_check.proofs.Entering.{entered_less}
use Rattle.wrp_handshake_laws.specs.Ends.{AllMayCome}
use Rattle.wrp_handshake_laws.specs.Worked.{worked_changes, before_it, after_it, exchanged_mark, WorkedHandshake}

all_come : AllMayCome 1 10 before_it worked_changes
all_come = (
  (tt, (inl refl, omega (arith, ints))),
  (
    (tt, (inl refl, omega (arith, ints))),
    (
      (tt, omega (arith, ints)),
      (
        tt,
        (
          (tt, (inl refl, omega (arith, ints))),
          (
            (tt, (inl refl, omega (arith, ints))),
            (
              (tt, omega (arith, ints)),
              (
                (tt, (inl refl, omega (arith, ints))),
                (
                  (tt, (inl refl, omega (arith, ints))),
                  (
                    (tt, omega (arith, ints)),
                    (
                      tt,
                      (
                        (tt, (inl refl, omega (arith, ints))),
                        (
                          (tt, (inl refl, omega (arith, ints))),
                          (
                            tt,
                            (
                              (tt, tt),
                              (
                                (tt, omega (arith, ints)),
                                (
                                  (tt, omega (arith, ints)),
                                  (
                                    tt,
                                    (
                                      (tt, omega (arith, ints)),
                                      (
                                        (tt, omega (arith, ints)),
                                        (
                                          tt,
                                          (
                                            tt,
                                            (
                                              tt,
                                              (
                                                tt,
                                                tt,
                                              ),
                                            ),
                                          ),
                                        ),
                                      ),
                                    ),
                                  ),
                                ),
                              ),
                            ),
                          ),
                        ),
                      ),
                    ),
                  ),
                ),
              ),
            ),
          ),
        ),
      ),
    ),
  ),
)

only : (newer : List (List Mark)) (stretch : List Mark) (older : List (List Mark)) (s : List Mark) → s ∷ [] ≡ newer ++ stretch ∷ older → s ≡ stretch
only [] stretch older s e = cc
only (n ∷ []) stretch older s e = cc
only (n ∷ m ∷ ns) stretch older s e = cc

-- a state that was entered
HasEntered : LinkState → List Mark → Type 0
HasEntered s [] = ⊥
HasEntered s (mark ∷ marks) = (mark.to ≡ s) ⊎ HasEntered s marks

has_first : (t : ℤ) (s : LinkState) (ss : List LinkState) (marks : List Mark) → Entered t (s ∷ ss) marks → HasEntered s marks
unfolding HasEntered
has_first t s ss [] h = absurd h
has_first t s ss (mark ∷ marks) h = elim h [ inl x ↦ inl x.is | inr x ↦ inr (has_first t s ss marks x) ]

-- the exchanged history
abbrev odd : List Mark
odd = map exchanged_mark after_it.master.marks

no_calibration : HasEntered Calibration odd → ⊥
unfolding HasEntered
no_calibration h =
    elim h [
      | inl e ↦ cc
      | inr h ↦
          elim h [
            | inl e ↦ cc
            | inr h ↦ elim h [ inl e ↦ cc | inr h ↦ elim h [ inl e ↦ cc | inr h ↦ elim h [ inl e ↦ cc | inr h ↦ absurd h ] ] ]
          ]
    ]

refuted : SameHandshake Slave after_it.slave.marks odd → ⊥
refuted s =
    let is : odd ≡ s.stretch = only s.sent.newest.newer s.stretch s.sent.newest.older odd s.sent.newest.splits in
    let e : Entered (pos 141) (LinkOn ∷ (RespCalib ∷ (Calibrated ∷ (Calibration ∷ (MLock ∷ []))))) odd =
    subst (λ (x : List Mark). Entered (pos 141) (LinkOn ∷ (RespCalib ∷ (Calibrated ∷ (Calibration ∷ (MLock ∷ []))))) x) (sym is) s.backed.0 in
    no_calibration
    (has_first (pos 141) Calibration (MLock ∷ []) odd
    (entered_less (pos 141) Calibrated (Calibration ∷ (MLock ∷ [])) odd
    (entered_less (pos 141) RespCalib (Calibrated ∷ (Calibration ∷ (MLock ∷ []))) odd
    (entered_less (pos 141) LinkOn (RespCalib ∷ (Calibrated ∷ (Calibration ∷ (MLock ∷ [])))) odd e))))

pub worked_handshake : WorkedHandshake
worked_handshake = record { quiet = omega arith; come = all_come; master_on = refl; slave_on = refl; refuted = refuted }
