-- The table of pairs: what an entry that is put or written makes of the chains.
use Rattle.std.proofs.Common.{◌≡◌, refl, sym, ap, ◌∙◌, ap₂, subst, Bool, true, false, ◌==◌, cond, if◌then◌else◌, Option, None, Some, IsSome, is_some, unwrap_or, []}
use Rattle.std.proofs.lemmas.Bool.{eqb-true}
use Rattle.std.specs.BTreeMap as tree
use Rattle.std.specs.Cmp.{both_tied, unsigned_tied}
use Rattle.std.specs.Ordering.{is_eq}
use Rattle.wrp_base.proofs.Booleans.{and_first, and_second}
use Rattle.wrp_base.specs.Message.{is_port}
use Rattle.wrp_base.specs.declared.message.PortIdentity.{PortIdentity}
use Rattle.wrp_pcap.specs.declared.chain.Trail.{Trail}
use Rattle.wrp_pcap.specs.declared.pairs.Pairs.{Pairs}
use Rattle.wrp_pcap.specs.Certificate.{goes}
use Rattle.wrp_pcap.specs.Chain.{trail_of}
use Rattle.wrp_pcap.specs.StandsFor.{Key, key, port_cmp, key_cmp, trail_at, HasRoom, KeepsRoom, Opened, Written}

-- ---- keys

port_is : (a b : PortIdentity) → is_port a b ≡ is_eq (port_cmp (a.clock, a.port) (b.clock, b.port))
port_is a b = both_tied _ _ _ _ (sym (unsigned_tied a.clock b.clock)) (sym (unsigned_tied a.port b.port))

key_is : (master slave m s : PortIdentity) → goes master slave m s ≡ is_eq (key_cmp (key master slave) (key m s))
key_is master slave m s = both_tied _ _ _ _ (port_is master m) (port_is slave s)

port_same : (a b : PortIdentity) → is_port a b ≡ true → a ≡ b
port_same a b is =
    let clock : a.clock ≡ b.clock = eqb-true a.clock b.clock (and_first (a.clock == b.clock) (a.port == b.port) is) in
    let port : a.port ≡ b.port = eqb-true a.port b.port (and_second (a.clock == b.clock) (a.port == b.port) is) in
    λ i. record { clock = clock i; port = port i }

-- two chains are one if their pairs are
chain_same : (pairs : Pairs) (master slave m s : PortIdentity) → goes master slave m s ≡ true → trail_at pairs master slave ≡ trail_at pairs m s
chain_same pairs master slave m s is =
    ap₂ (trail_at pairs) (port_same master m (and_first (is_port master m) (is_port slave s) is))
    (port_same slave s (and_second (is_port master m) (is_port slave s) is))

-- ---- one entry

-- the table with a chain at one pair
abbrev pub Puts : (master slave : PortIdentity) → Trail → Pairs → Pairs → Type 0
Puts master slave chain old new = tree.Updates key_cmp old.chains new.chains (key master slave) (Some chain)

put_at : (master slave : PortIdentity) (chain : Trail) (old new : Pairs) → Puts master slave chain old new → (m s : PortIdentity) →
    tree.get key_cmp new.chains (key m s) ≡ (if goes master slave m s then Some chain else tree.get key_cmp old.chains (key m s))
put_at master slave chain old new puts m s =
    puts.0 (key m s) ∙ ap (λ b. cond b (Some chain) (tree.get key_cmp old.chains (key m s))) (sym (key_is master slave m s))

room_if : (b : Bool) (chain : Trail) (o : Option Trail) → IsSome o → IsSome (if b then Some chain else o)
room_if true chain o h = refl
room_if false chain o h = h

pub put_room : (master slave : PortIdentity) (chain : Trail) (old new : Pairs) → Puts master slave chain old new → KeepsRoom old new
put_room master slave chain old new puts m s room =
    subst (λ (o : Option Trail). IsSome o) (sym (put_at master slave chain old new puts m s)) (room_if (goes master slave m s) chain (tree.get key_cmp old.chains (key m s)) room)

chain_if : (b : Bool) (chain empty : Trail) (o : Option Trail) → unwrap_or (if b then Some chain else o) empty ≡ (if b then chain else unwrap_or o empty)
chain_if true chain empty o = refl
chain_if false chain empty o = refl

pub put_written : (master slave : PortIdentity) (chain : Trail) (old new : Pairs) → Puts master slave chain old new → Written master slave chain old new
put_written master slave chain old new puts m s =
    ap (λ o. unwrap_or o (trail_of m s [])) (put_at master slave chain old new puts m s)
    ∙ chain_if (goes master slave m s) chain (trail_of m s []) (tree.get key_cmp old.chains (key m s))

none_if : (o : Option Trail) → is_some o ≡ false → o ≡ None
none_if None e = refl
none_if (Some chain) e = absurd cc

-- an entry that was put at a key
pub puts_at : (master slave : PortIdentity) (at : Key) (chain : Trail) (old new : Pairs) → at ≡ key master slave →
    tree.Updates key_cmp old.chains new.chains at (Some chain) → Puts master slave chain old new
puts_at master slave at chain old new is updates = subst (λ (k : Key). tree.Updates key_cmp old.chains new.chains k (Some chain)) is updates

pub none_at : (master slave : PortIdentity) (at : Key) (pairs : Pairs) → at ≡ key master slave → is_some (tree.get key_cmp pairs.chains at) ≡ false →
    tree.get key_cmp pairs.chains (key master slave) ≡ None
none_at master slave at pairs is none =
    none_if (tree.get key_cmp pairs.chains (key master slave)) (subst (λ (k : Key). is_some (tree.get key_cmp pairs.chains k) ≡ false) is none)

-- the chain of no messages, put in if there is none
same_if : (b : Bool) (x y : Trail) → (b ≡ true → x ≡ y) → (if b then x else y) ≡ y
same_if true x y h = h refl
same_if false x y h = refl

pub none_found : (master slave : PortIdentity) (at : Key) (pairs : Pairs) → at ≡ key master slave → None ≡ tree.get key_cmp pairs.chains at →
    tree.get key_cmp pairs.chains (key master slave) ≡ None
none_found master slave at pairs is none = sym (subst (λ (k : Key). None ≡ tree.get key_cmp pairs.chains k) is none)

pub room_at : (master slave : PortIdentity) (at : Key) (pairs : Pairs) → at ≡ key master slave → HasRoom master slave pairs →
    IsSome (tree.get key_cmp pairs.chains at)
room_at master slave at pairs is room = subst (λ (k : Key). IsSome (tree.get key_cmp pairs.chains k)) (sym is) room

-- a chain that is shown if the table has none
pub shown_empty : (master slave : PortIdentity) (chain : Trail) (pairs : Pairs) →
    tree.get key_cmp pairs.chains (key master slave) ≡ None → chain ≡ trail_of master slave [] → chain ≡ trail_at pairs master slave
shown_empty master slave chain pairs none empty = empty ∙ sym (ap (λ o. unwrap_or o (trail_of master slave [])) none)

pub put_empty : (master slave : PortIdentity) (chain : Trail) (old new : Pairs) → Puts master slave chain old new →
    tree.get key_cmp old.chains (key master slave) ≡ None → chain ≡ trail_of master slave [] → Opened old new
put_empty master slave chain old new puts none empty =
    let old_chain : chain ≡ trail_at old master slave = shown_empty master slave chain old none empty in
    record {
      chains = λ m s.
          put_written master slave chain old new puts m s
          ∙ same_if (goes master slave m s) chain (trail_at old m s) (λ is. old_chain ∙ chain_same old master slave m s is);
      room = put_room master slave chain old new puts;
    }
