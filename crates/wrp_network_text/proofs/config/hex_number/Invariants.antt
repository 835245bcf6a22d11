use Rattle.std.proofs.Common.{◌≡◌, ◌+◌, ◌*◌, drop, fold}
use Rattle.wrp_network_text.specs.Config.{hex_value, hex_number}
use Rattle.wrp_network_text.proofs.config.hex_number.Given as goal

abbrev pub invariant-loop-digit : goal.invariant-loop-digit
invariant-loop-digit l = hex_number l.digits ≡ fold (λ n c. 16 * n + hex_value c) l.number (drop l.digit-index l.digits)
