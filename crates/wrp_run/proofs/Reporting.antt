-- Words whose command reports true offsets ask for nothing else, and the line for words that are refused has no track line.
use Rattle.std.proofs.Common.{inl, inr, refl, sym, subst, ℕ, ◌≤◌, drop, Option, None, Some, option_map, List, [], ◌∷◌, codes, arith}
use Rattle.std.specs.Prelude.{option_and_then}
use Rattle.std.specs.Borrow.{Bor}
use Rattle.wrp_commands.specs.Request.{Loop, OnNetwork, Simulate}
use Rattle.wrp_words.specs.Fields.{seed_of}
use Rattle.wrp_words.specs.Refusals.{usage_line}
use Rattle.wrp_words.specs.Requests.{ReportsTrueOffsets, asked_in, request_in, value_given}
use Rattle.wrp_words.specs.Rows.{emission, looping, simulation}
use Rattle.wrp_asked.specs.EmitHeadline.{HasPlainUsage}
use Rattle.wrp_asked.specs.PrintedTracks.{ReportsOffsets}
use Rattle.wrp_asked.proofs.NoTrack.{third_low}

pub usage_is_plain : (words : List (Bor (List ℕ))) → HasPlainUsage (asked_in words)
usage_is_plain words =
    let low : 97 ≤ 115 = omega arith in
    (third_low (codes "usage:") (codes "wrnet") (drop 13 usage_line) refl refl low, tt)

emission_reports : (given : Option (List ℕ)) → ReportsOffsets (option_and_then emission given)
emission_reports None = tt
emission_reports (Some name) = tt

simulated : (seed : Option ℕ) → ReportsOffsets (option_map (λ own. OnNetwork (Simulate own)) seed)
simulated None = tt
simulated (Some seed) = tt

simulation_reports : (given : Option (List ℕ)) → ReportsOffsets (option_and_then simulation given)
simulation_reports None = tt
simulation_reports (Some text) = simulated (seed_of text)

looped : (seed : Option ℕ) → ReportsOffsets (option_map (λ own. OnNetwork (Loop own)) seed)
looped None = tt
looped (Some seed) = tt

loop_reports : (given : Option (List ℕ)) → ReportsOffsets (option_and_then looping given)
loop_reports None = tt
loop_reports (Some text) = looped (seed_of text)

audit_reports : (others : List (List ℕ)) → ReportsOffsets (request_in (codes "audit" ∷ others))
unfolding request_in
audit_reports [] = tt
audit_reports (word ∷ others) = emission_reports (value_given (codes "--emit") (word ∷ others))

simulate_reports : (others : List (List ℕ)) → ReportsOffsets (request_in (codes "simulate" ∷ others))
unfolding request_in
simulate_reports others = simulation_reports (value_given (codes "--seed") others)

looping_reports : (others : List (List ℕ)) → ReportsOffsets (request_in (codes "loop" ∷ others))
unfolding request_in
looping_reports others = loop_reports (value_given (codes "--seed") others)

pub offsets_reported : (words : List (List ℕ)) → ReportsTrueOffsets words → ReportsOffsets (request_in words)
offsets_reported words (first, others, is, which) =
    subst (λ (ws : List (List ℕ)). ReportsOffsets (request_in ws)) (sym is) (elim which [
      | inl audit ↦ subst (λ (word : List ℕ). ReportsOffsets (request_in (word ∷ others))) (sym audit) (audit_reports others)
      | inr more ↦ elim more [
        | inl simulate ↦ subst (λ (word : List ℕ). ReportsOffsets (request_in (word ∷ others))) (sym simulate) (simulate_reports others)
        | inr loop ↦ subst (λ (word : List ℕ). ReportsOffsets (request_in (word ∷ others))) (sym loop) (looping_reports others)
      ]
    ])
