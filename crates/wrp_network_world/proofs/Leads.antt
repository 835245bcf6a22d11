-- What is expected by one meaning of lines is expected by another that it leads to.
use Rattle.std.proofs.Common.{inl, inr, ℕ, List, map}
use Rattle.wrp_records.specs.declared.machine.Refusal.{Refusal}
use Rattle.wrp_records.specs.declared.machine.Refusal.TheVariants as refusals
use Rattle.wrp_records.specs.declared.status.Status.{Status}
use Rattle.wrp_records.specs.declared.status.Status.TheVariants.{Done, BadTrace, Broken, TooLarge, BadCalib}
use Rattle.wrp_records.specs.Lines.{content_of}
use Rattle.wrp_records.specs.LineMeaning.{LineMeaning}
use Rattle.wrp_records.specs.RecordsAnswer.{RecordsAnswer}
use Rattle.wrp_records.specs.Stream.{Handles}

-- what is expected by one meaning is expected by another that it leads to
pub record Leads (M N : LineMeaning) : Type 0 where
  pub accepts : (lines : List (List ℕ)) (text : List ℕ) → M.accepts lines text → N.accepts lines text
  pub refuses : (lines : List (List ℕ)) (line last : List ℕ) (refusal : Refusal) → M.refuses lines line refusal last → N.refuses lines line refusal last
  pub closes : (lines : List (List ℕ)) (last : List ℕ) → M.closes lines last → N.closes lines last
  pub breaks_off : (lines : List (List ℕ)) (status : Status) (last : List ℕ) → M.breaks_off lines status last → N.breaks_off lines status last

handles_so : (M N : LineMeaning) → Leads M N → (lines : List (List ℕ)) (text : List ℕ) → Handles M.accepts lines text → Handles N.accepts lines text
handles_so M N leads lines text h = record { sizes = h.sizes; count = h.count; accepted = leads.accepts (map content_of lines) text h.accepted }

pub due_so : (M N : LineMeaning) → Leads M N → (lines : List (List ℕ)) (status : Status) (octets : List ℕ) → RecordsAnswer M lines status octets
    → RecordsAnswer N lines status octets
due_so M N leads lines Done octets h = record {
  written = h.written;
  last = h.last;
  handled = handles_so M N leads lines h.written h.handled;
  closed = leads.closes (map content_of lines) h.last h.closed;
  is = h.is;
}
due_so M N leads lines BadTrace octets h = record {
  before = h.before;
  line = h.line;
  behind = h.behind;
  written = h.written;
  last = h.last;
  divided = h.divided;
  handled = handles_so M N leads h.before h.written h.handled;
  within = h.within;
  number = h.number;
  refused = leads.refuses (map content_of h.before) (content_of h.line) h.last refusals.BadTrace h.refused;
  is = h.is;
}
due_so M N leads lines Broken octets h = record {
  before = h.before;
  line = h.line;
  behind = h.behind;
  written = h.written;
  last = h.last;
  divided = h.divided;
  handled = handles_so M N leads h.before h.written h.handled;
  within = h.within;
  number = h.number;
  refused = leads.refuses (map content_of h.before) (content_of h.line) h.last refusals.Broken h.refused;
  is = h.is;
}
due_so M N leads lines TooLarge octets (inl h) = inl (record {
  before = h.before;
  line = h.line;
  behind = h.behind;
  written = h.written;
  divided = h.divided;
  handled = handles_so M N leads h.before h.written h.handled;
  large = h.large;
  is = h.is;
})
due_so M N leads lines TooLarge octets (inr h) = inr (record {
  written = h.written;
  last = h.last;
  handled = handles_so M N leads lines h.written h.handled;
  broken = leads.breaks_off (map content_of lines) TooLarge h.last h.broken;
  is = h.is;
})
due_so M N leads lines BadCalib octets h = record {
  written = h.written;
  last = h.last;
  handled = handles_so M N leads lines h.written h.handled;
  broken = leads.breaks_off (map content_of lines) BadCalib h.last h.broken;
  is = h.is;
}
due_so M N leads lines _ octets h = absurd h
