-- Each form is a row's, and each row has its forms.
use Rattle.std.proofs.Common.{inl, inr, refl, ℕ, List, [], ◌∷◌, map}
use Rattle.wrp_commands.specs.declared.alone.Alone.{Alone}
use Rattle.wrp_commands.specs.declared.alone.Alone.TheVariants.{Migrate, Inspect, L1Sync, Calibrate, Plain}
use Rattle.wrp_words.specs.declared.command_line.Form.{Form}
use Rattle.wrp_words.specs.declared.command_line.Form.TheVariants as forms
use Rattle.wrp_words.specs.Alone.{IsAlone, alone_commands}
use Rattle.wrp_words.specs.CommandLine.{HasForm, IsForm}
use Rattle.wrp_words.specs.Rows.{IsLineOf, bare_row, rows}
use Rattle.wrp_words.proofs.rows.lines_are_of_rows.Goals as goal

-- the command of such a row
alone_with : (alones : List Alone) (words : List (List ℕ)) → IsLineOf (map bare_row alones) words → (alone : Alone) × IsAlone words alone
alone_with [] words none = absurd none
alone_with (first ∷ more) words (inl is) = (first, is)
alone_with (first ∷ more) words (inr is) = alone_with more words is

-- the row of a command that stands alone
row_with : (words : List (List ℕ)) (alone : Alone) → IsAlone words alone → IsLineOf (map bare_row alone_commands) words
row_with words Migrate is = inl is
row_with words Inspect is = inr (inl is)
row_with words L1Sync is = inr (inr (inl is))
row_with words Calibrate is = inr (inr (inr (inl is)))
row_with words Plain is = inr (inr (inr (inr (inl is))))

-- the row of a form
row_of : (words : List (List ℕ)) (form : Form) (value : List ℕ) → IsForm form words value → IsLineOf rows words
row_of words forms.Audit value is = inl (inl is.0)
row_of words forms.Emit value is = inl (inr (value, is))
row_of words forms.Replay value is = inr (inl (value, is))
row_of words forms.Simulate value is = inr (inr (inl (value, is)))
row_of words forms.Loop value is = inr (inr (inr (inl (value, is))))
row_of words (forms.Alone alone) value is = inr (inr (inr (inr (row_with words alone is.0))))

-- the form of a line
form_of : (words : List (List ℕ)) → IsLineOf rows words → (form : Form) × HasForm words form
form_of words (inl (inl is)) = (forms.Audit, ([], (is, refl)))
form_of words (inl (inr (value, is))) = (forms.Emit, (value, is))
form_of words (inr (inl (value, is))) = (forms.Replay, (value, is))
form_of words (inr (inr (inl (value, is)))) = (forms.Simulate, (value, is))
form_of words (inr (inr (inr (inl (value, is))))) = (forms.Loop, (value, is))
form_of words (inr (inr (inr (inr row)))) = let has = alone_with alone_commands words row in (forms.Alone has.0, ([], (has.1, refl)))

pub returns : goal.returns
returns c = record {
  usage = refl;
  forms = λ words. ((λ has. row_of words has.0 has.1.0 has.1.1), form_of words);
  parser = refl;
}
