-- The text of a loop, event by event.
use Rattle.std.proofs.Common.{◌≡◌, ◌∙◌, refl, ap, sym, ℕ, List, [], ◌∷◌, ◌++◌, map, flat_map, append_assoc, append-nil}
use Rattle.std.specs.List.{concat}
use Rattle.wrp_course.specs.Run.{Happened}
use Rattle.wrp_loop.specs.LoopRun.{LoopAt, Plan, events_at, world_at}
use Rattle.wrp_loop.specs.LoopStands.{Grows, event_octets}
use Rattle.wrp_loop.specs.LoopText.{loop_lines, loop_text, marked_line, steps_lines}

pub concat_append : (a b : List (List ℕ)) → concat (a ++ b) ≡ concat a ++ concat b
concat_append [] b = refl
concat_append (line ∷ a) b = ap (λ rest. line ++ rest) (concat_append a b) ∙ sym (append_assoc line (concat a) (concat b))

pub concat_flat : {A : Type 0} (f : A → List (List ℕ)) (xs : List A) → concat (flat_map f xs) ≡ flat_map (λ x. concat (f x)) xs
concat_flat f [] = refl
concat_flat f (x ∷ xs) = concat_append (f x) (flat_map f xs) ∙ ap (λ rest. concat (f x) ++ rest) (concat_flat f xs)

pub concat_map : {A : Type 0} (f : A → List ℕ) (xs : List A) → concat (map f xs) ≡ flat_map f xs
concat_map f [] = refl
concat_map f (x ∷ xs) = ap (λ rest. f x ++ rest) (concat_map f xs)

-- A text that grows

pub grows_none : (x : Plan) (l now : LoopAt) (text : List ℕ) → events_at now ≡ events_at l → Grows x l now text text
grows_none x l now text same = record {
  added = [];
  text = sym (append-nil text);
  lines = ap (loop_text x.setting) same ∙ sym (append-nil (loop_text x.setting (events_at l)));
}

pub grows_one : (x : Plan) (l now : LoopAt) (h : Happened) (old new : List ℕ) → events_at now ≡ h ∷ events_at l → new ≡ old ++ event_octets x.setting h.says h.answer (world_at x l) h.event → Grows x l now old new
grows_one x l now h old new came wrote = record {
  added = event_octets x.setting h.says h.answer (world_at x l) h.event;
  text = wrote;
  lines = ap (loop_text x.setting) came
      ∙ concat_append (loop_lines x.setting (events_at l)) (marked_line x.setting.cfg h.event ∷ steps_lines x.setting (events_at l) h);
}

pub grows_more : (x : Plan) (a b c : LoopAt) (s t u : List ℕ) → Grows x a b s t → Grows x b c t u → Grows x a c s u
grows_more x a b c s t u h k = record {
  added = h.added ++ k.added;
  text = k.text ∙ (ap (λ more. more ++ k.added) h.text ∙ append_assoc s h.added k.added);
  lines = k.lines ∙ (ap (λ more. more ++ k.added) h.lines ∙ append_assoc (loop_text x.setting (events_at a)) h.added k.added);
}
