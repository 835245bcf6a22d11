-- The greatest numbers of some modules, entry by entry (this project's profile).
use Rattle.std.specs.Prelude.{List, max, fold}
use Rattle.wrp_base.specs.declared.link.Module.{Module}
use Rattle.wrp_caldb.specs.Database.{ModuleAt}
use Rattle.wrp_caldb.specs.declared.database.Entry.{Entry}
use Rattle.wrp_network_text.specs.declared.greatest.Greatest.{Greatest}

-- with one more entry
abbrev pub raised : Greatest → Module → Greatest
raised so_far delays = record {
  err = max so_far.err delays.err;
  tx = max so_far.tx delays.tx;
  rx = max so_far.rx delays.rx;
}

-- with the entries of a module
abbrev pub over_entries : Greatest → List Entry → Greatest
over_entries so_far entries = fold (λ g entry. raised g entry.delays) so_far entries

-- with the entries of these modules
abbrev pub over_modules : Greatest → List ModuleAt → Greatest
over_modules so_far modules = fold (λ g m. over_entries g m.entries) so_far modules
