-- What a number, a timestamp, an identity, a header and a body are read as, from the octets as which they are sent.
use Rattle.std.proofs.Common.{◌≡◌, ◌<◌, ◌^◌, ◌%◌, ℕ, ℤ, [], Option, sym, ap, ◌∙◌}
use Rattle.std.proofs.lemmas.List.{append-nil}
use Rattle.std.proofs.Math.Nat.{mod-eq_of_lt}
use Rattle.std.specs.Int.{w16, w64, cast_signed, cast_unsigned}
use Rattle.byteorder.specs.Endian.{big_number, big_bytes}
use Rattle.byteorder.specs.Numbers.{big_number-reads_back}
use Rattle.wrp_base.specs.declared.time.Ts.{Ts}
use Rattle.wrp_base.specs.declared.message.PortIdentity.{PortIdentity}
use Rattle.wrp_base.specs.declared.message.Head.{Head}
use Rattle.wrp_base.specs.declared.message.Body.TheVariants.{Announce}
use Rattle.wrp_frame.specs.Fitting.{FitsTime, FitsIdentity, FitsHead, FitsAnnounce}

-- a number as it is read from the n octets in which it is sent
abbrev pub again : ℕ → ℕ → ℕ
again n x = big_number n (big_bytes n x)

abbrev pub again_16 : ℤ → ℤ
again_16 z = cast_signed w16 (again 2 (cast_unsigned w16 z))

abbrev pub again_64 : ℤ → ℤ
again_64 z = cast_signed w64 (again 8 (cast_unsigned w64 z))

pub same : (n x : ℕ) → x < 256 ^ n → again n x ≡ x
same n x fits = ap (big_number n) (sym (append-nil (big_bytes n x))) ∙ big_number-reads_back n x [] fits

abbrev pub time_again : Ts → Ts
time_again t = record { seconds = again 6 t.seconds; nanos = again 4 t.nanos }

pub time_same : (t : Ts) → FitsTime t → time_again t ≡ t
time_same t fits =
    ap (λ n. record { seconds = n; nanos = again 4 t.nanos }) (same 6 t.seconds fits.seconds)
    ∙ ap (λ n. record { seconds = t.seconds; nanos = n }) (same 4 t.nanos fits.nanos)

abbrev pub identity_again : PortIdentity → PortIdentity
identity_again i = record { clock = again 8 i.clock; port = again 2 i.port }

pub identity_same : (i : PortIdentity) → FitsIdentity i → identity_again i ≡ i
identity_same i fits =
    ap (λ n. record { clock = n; port = again 2 i.port }) (same 8 i.clock fits.clock)
    ∙ ap (λ n. record { clock = i.clock; port = n }) (same 2 i.port fits.port)

abbrev pub head_again : Head → Head
head_again h = record {
  domain = h.domain % 256;
  flags = again 2 h.flags;
  correction = again_64 h.correction;
  source = identity_again h.source;
  seq = again 2 h.seq;
  interval = h.interval % 256;
}

pub head_same : (h : Head) → FitsHead h → head_again h ≡ h
head_same h fits =
    ap (λ n. record (head_again h) { domain = n }) (mod-eq_of_lt fits.domain)
    ∙ ap (λ n. record (head_again h) { domain = h.domain; flags = n }) (same 2 h.flags fits.flags)
    ∙ ap (λ n. record (head_again h) { domain = h.domain; flags = h.flags; correction = n }) (ap (cast_signed w64) (same 8 (cast_unsigned w64 h.correction) fits.correction) ∙ fits.signed)
    ∙ ap (λ i. record h { source = i; seq = again 2 h.seq; interval = h.interval % 256 }) (identity_same h.source fits.source)
    ∙ ap (λ n. record h { seq = n; interval = h.interval % 256 }) (same 2 h.seq fits.seq)
    ∙ ap (λ n. record h { interval = n }) (mod-eq_of_lt fits.interval)

pub announce_same : (origin : Ts) (utc : ℤ) (p1 quality p2 gm steps source : ℕ) (suffix : Option ℕ) → FitsAnnounce origin utc p1 quality p2 gm steps source
    → Announce (time_again origin) (again_16 utc) (p1 % 256) (again 4 quality) (p2 % 256) (again 8 gm) (again 2 steps) (source % 256) suffix
    ≡ Announce origin utc p1 quality p2 gm steps source suffix
announce_same origin utc p1 quality p2 gm steps source suffix fits =
    ap (λ t. Announce t (again_16 utc) (p1 % 256) (again 4 quality) (p2 % 256) (again 8 gm) (again 2 steps) (source % 256) suffix) (time_same origin fits.origin)
    ∙ ap (λ z. Announce origin z (p1 % 256) (again 4 quality) (p2 % 256) (again 8 gm) (again 2 steps) (source % 256) suffix) (ap (cast_signed w16) (same 2 (cast_unsigned w16 utc) fits.utc) ∙ fits.signed)
    ∙ ap (λ n. Announce origin utc n (again 4 quality) (p2 % 256) (again 8 gm) (again 2 steps) (source % 256) suffix) (mod-eq_of_lt fits.p1)
    ∙ ap (λ n. Announce origin utc p1 n (p2 % 256) (again 8 gm) (again 2 steps) (source % 256) suffix) (same 4 quality fits.quality)
    ∙ ap (λ n. Announce origin utc p1 quality n (again 8 gm) (again 2 steps) (source % 256) suffix) (mod-eq_of_lt fits.p2)
    ∙ ap (λ n. Announce origin utc p1 quality p2 n (again 2 steps) (source % 256) suffix) (same 8 gm fits.gm)
    ∙ ap (λ n. Announce origin utc p1 quality p2 gm n (source % 256) suffix) (same 2 steps fits.steps)
    ∙ ap (λ n. Announce origin utc p1 quality p2 gm steps n suffix) (mod-eq_of_lt fits.source)
