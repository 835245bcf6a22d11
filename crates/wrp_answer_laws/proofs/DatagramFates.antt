-- Each datagram has its fate: it is one of the frames that arrived, or none; and it says a message of the peer, or does not.
use Rattle.std.proofs.Common.{◌≡◌, ◌∙◌, ◌⊎◌, inl, inr, refl, ap, sym, subst, ℕ, zero, suc, ◌<◌, ◌≤◌, pos, ◌-ℤ◌, ◌≤ℤ◌, Bool, true, false, List, Option, None, Some, is_some, Result, Ok, Err, arith}
use Rattle.std.proofs.lemmas.Bool.{cases_Bool, cases_eq, cases_lt, true≢false}
use Rattle.std.proofs.lemmas.Int.{by_lt_z, ints}
use Rattle.std.proofs.lemmas.Option.{none-some, same_Some}
use Rattle.std.proofs.lemmas.Slice.Eq.{bytes_eq-Decides}
use Rattle.std.specs.Prelude.{Decides, bytes_eq}
use Rattle.wrp_base.specs.declared.link.Role.{Role}
use Rattle.wrp_base.specs.declared.link.Role.TheVariants.{Master, Slave}
use Rattle.wrp_base.specs.declared.message.PtpMsg.{PtpMsg}
use Rattle.wrp_base.specs.Message.{is_port}
use Rattle.wrp_network.specs.Network.{End}
use Rattle.wrp_bounds.specs.Times.{frame_life}
use Rattle.wrp_course.specs.Premises.{is_forged}
use Rattle.wrp_course.specs.Run.{Happened, world_after}
use Rattle.wrp_course.specs.Setting.{Setting}
use Rattle.wrp_course.specs.WorldAt.{FrameAt, WorldAt}
use Rattle.wrp_frame.proofs.Saying.{each_says}
use Rattle.wrp_frame.specs.declared.fault.FrameFault.{FrameFault}
use Rattle.wrp_frame.specs.Saying.{Says}
use Rattle.wrp_frame.specs.SentOctets.{octets_of}
use Rattle.wrp_node.proofs.OneRun.{ok_of}
use Rattle.wrp_node.specs.NodeAt.{port_of}
use Rattle.wrp_bound_laws.proofs.Frames.InOrder.{Numbered, all_numbered}
use Rattle.wrp_loop.specs.Datagrams.{Chooses, IsFate, IsFrameOf, IsLeastOpen, IsOfPeer, IsSuch, Way, handed_in}
use Rattle.wrp_loop.specs.declared.fate.Fate.{Fate}
use Rattle.wrp_loop.specs.declared.fate.Fate.TheVariants.{Handed, Forged, Noisy}

abbrev Decided : Type 0 → Type 0
Decided P = P ⊎ (P → ⊥)

-- Whether a frame is such

by_test : {P : Type 0} (b : Bool) → Decides b P → Decided P
by_test true d = inl (d.0 refl)
by_test false d = inr (λ p. true≢false (sym (d.1 p)))

is_true : (b : Bool) → Decided (b ≡ true)
is_true true = inl refl
is_true false = inr (λ e. true≢false (sym e))

two_roles : Master ≡ Slave → ⊥
two_roles e = cc

same_role : (a b : Role) → Decided (a ≡ b)
same_role Master Master = inl refl
same_role Slave Slave = inl refl
same_role Master Slave = inr two_roles
same_role Slave Master = inr (λ e. two_roles (sym e))

-- what is asked about a frame that is there
record Fits (s : Setting) (w : WorldAt) (way : Way) (octets : List ℕ) (f : FrameAt) : Type 0 where
  pub link_is : f.link ≡ way.link
  pub by_is : f.by ≡ way.by
  pub arrived : is_some f.arrival ≡ true
  pub young : (w.time -ℤ f.sending.at) ≤ℤ pos (frame_life s.cfg)
  pub equals : octets_of f.sending.message ≡ octets

young_or_old : (s : Setting) (w : WorldAt) (f : FrameAt) → Decided ((w.time -ℤ f.sending.at) ≤ℤ pos (frame_life s.cfg))
young_or_old s w f =
    by_lt_z (pos (frame_life s.cfg)) (w.time -ℤ f.sending.at) (λ old. inr (λ young. omega (arith, ints, old, young))) (λ young. inl young)

fits_or_not : (s : Setting) (w : WorldAt) (way : Way) (octets : List ℕ) (f : FrameAt) → Decided (Fits s w way octets f)
fits_or_not s w way octets f =
    elim (cases_eq f.link way.link) [
      | inr other ↦ inr (λ h. other h.link_is)
      | inl link ↦ elim (same_role f.by way.by) [
        | inr other ↦ inr (λ h. other h.by_is)
        | inl by ↦ elim (is_true (is_some f.arrival)) [
          | inr not_yet ↦ inr (λ h. not_yet h.arrived)
          | inl arrived ↦ elim (young_or_old s w f) [
            | inr old ↦ inr (λ h. old h.young)
            | inl young ↦ elim (by_test (bytes_eq (octets_of f.sending.message) octets) (bytes_eq-Decides (octets_of f.sending.message) octets)) [
              | inr others ↦ inr (λ h. others h.equals)
              | inl equals ↦ inl (record { link_is = link; by_is = by; arrived = arrived; young = young; equals = equals })
            ]
          ]
        ]
      ]
    ]

fits_such : (s : Setting) (w : WorldAt) (way : Way) (octets : List ℕ) (i : ℕ) (f : FrameAt) → w.frame i ≡ Some f →
    Fits s w way octets f → IsSuch s w way octets i
fits_such s w way octets i f is h = record {
  frame = f;
  is = is;
  link_is = h.link_is;
  by_is = h.by_is;
  arrived = h.arrived;
  young = h.young;
  equals = h.equals;
}

such_fits : (s : Setting) (w : WorldAt) (way : Way) (octets : List ℕ) (i : ℕ) (f : FrameAt) → w.frame i ≡ Some f →
    IsSuch s w way octets i → Fits s w way octets f
such_fits s w way octets i f is such =
    subst (Fits s w way octets) (same_Some such.frame f (sym such.is ∙ is))
    (record { link_is = such.link_is; by_is = such.by_is; arrived = such.arrived; young = such.young; equals = such.equals })

such_or_not : (s : Setting) (w : WorldAt) (way : Way) (octets : List ℕ) (i : ℕ) → Decided (IsSuch s w way octets i)
such_or_not s w way octets i = go (w.frame i) refl
  where
    go : (o : Option FrameAt) → w.frame i ≡ o → Decided (IsSuch s w way octets i)
    go None none = inr (λ such. none-some such.frame (sym none ∙ such.is))
    go (Some f) is = elim (fits_or_not s w way octets f) [
      | inl fits ↦ inl (fits_such s w way octets i f is fits)
      | inr not ↦ inr (λ such. not (such_fits s w way octets i f is such))
    ]

-- Which of the frames with the first numbers it is: none is such, or one is the least that is open, or all that are
-- such were handed over and one is the greatest

abbrev NoneSuch : (Such : ℕ → Type 0) → ℕ → Type 0
NoneSuch Such count = (j : ℕ) → j < count → Such j → ⊥

abbrev Open : (Such : ℕ → Type 0) → (handed : ℕ → Bool) → Type 0
Open Such handed = (i : ℕ) × Such i × IsLeastOpen Such handed i

abbrev Last : (Such : ℕ → Type 0) → (handed : ℕ → Bool) → ℕ → Type 0
Last Such handed count = (i : ℕ) × Such i × ((j : ℕ) → j < count → Such j → (handed j ≡ true) × (j ≤ i))

abbrev Known : (Such : ℕ → Type 0) → (handed : ℕ → Bool) → ℕ → Type 0
Known Such handed count = NoneSuch Such count ⊎ (Open Such handed ⊎ Last Such handed count)

-- the next number is the last of those below its successor
last_of : (j count : ℕ) → j < suc count → count ≤ j → j ≡ count
last_of j count below past = omega (arith, below, past)

-- if the next frame is not such
stays : (Such : ℕ → Type 0) (handed : ℕ → Bool) (count : ℕ) → (Such count → ⊥) → Known Such handed count →
    Known Such handed (suc count)
stays Such handed count other (inl none) =
    inl (λ j below such.
    elim (cases_lt j count) [
      | inl before ↦ none j before such
      | inr past ↦ other (subst Such (last_of j count below past) such)
    ])
stays Such handed count other (inr (inl first)) = inr (inl first)
stays Such handed count other (inr (inr last)) =
    inr (inr (
      last.0,
      last.1,
      λ j below such.
          elim (cases_lt j count) [
            | inl before ↦ last.2 j before such
            | inr past ↦ absurd (other (subst Such (last_of j count below past) such))
          ],
    ))

-- if it is, and was handed over
after_handed : (Such : ℕ → Type 0) (handed : ℕ → Bool) (count : ℕ) → Such count → handed count ≡ true → Known Such handed count →
    Known Such handed (suc count)
after_handed Such handed count is done (inl none) =
    inr (inr (
      count,
      is,
      λ j below such.
          elim (cases_lt j count) [
            | inl before ↦ absurd (none j before such)
            | inr past ↦ (ap handed (last_of j count below past) ∙ done, omega (arith, below))
          ],
    ))
after_handed Such handed count is done (inr (inl first)) = inr (inl first)
after_handed Such handed count is done (inr (inr last)) =
    inr (inr (
      count,
      is,
      λ j below such.
          elim (cases_lt j count) [
            | inl before ↦ ((last.2 j before such).0, omega (arith, below))
            | inr past ↦ (ap handed (last_of j count below past) ∙ done, omega (arith, below))
          ],
    ))

-- if it is, and is open
after_open : (Such : ℕ → Type 0) (handed : ℕ → Bool) (count : ℕ) → Such count → handed count ≡ false → Known Such handed count →
    Known Such handed (suc count)
after_open Such handed count is free (inl none) =
    inr (inl (count, is, (free, λ j such less. absurd (none j less such))))
after_open Such handed count is free (inr (inl first)) = inr (inl first)
after_open Such handed count is free (inr (inr last)) = inr (inl (count, is, (free, λ j such less. (last.2 j less such).0)))

known_below : (Such : ℕ → Type 0) (handed : ℕ → Bool) → ((i : ℕ) → Decided (Such i)) → (count : ℕ) → Known Such handed count
known_below Such handed decide zero = inl (λ j below such. omega (arith, below))
known_below Such handed decide (suc count) =
    let before : Known Such handed count = known_below Such handed decide count in
    elim (decide count) [
      | inr other ↦ stays Such handed count other before
      | inl is ↦ elim (cases_Bool (handed count)) [
        | inl done ↦ after_handed Such handed count is done before
        | inr free ↦ after_open Such handed count is free before
      ]
    ]

-- and of all frames, if those with greater numbers are not such
choice : (Such : ℕ → Type 0) (handed : ℕ → Bool) (count : ℕ) → ((j : ℕ) → count ≤ j → Such j → ⊥) → Known Such handed count →
    (found : Option ℕ) × Chooses Such handed found
choice Such handed count beyond (inl none) =
    (None, λ j such. elim (cases_lt j count) [ inl below ↦ none j below such | inr past ↦ beyond j past such ])
choice Such handed count beyond (inr (inl first)) = (Some first.0, record { such = first.1; which = inl first.2 })
choice Such handed count beyond (inr (inr last)) = (
  Some last.0,
  record {
    such = last.1;
    which = inr (λ j such.
        elim (cases_lt j count) [
          | inl below ↦ last.2 j below such
          | inr past ↦ absurd (beyond j past such)
        ]);
  },
)

not_beyond : (s : Setting) (events : List Happened) (way : Way) (octets : List ℕ) (j : ℕ) → suc (world_after s events).departed ≤ j →
    IsSuch s (world_after s events) way octets j → ⊥
not_beyond s events way octets j past such =
    let w : WorldAt = world_after s events in
    let known : Numbered w.departed w.count j (Some such.frame) = subst (Numbered w.departed w.count j) such.is (all_numbered s events j) in
    let below : j ≤ w.departed = known.0 in
    omega (arith, past, below)

-- which frame a datagram is
frame_found : (s : Setting) (events : List Happened) (way : Way) (octets : List ℕ) →
    (found : Option ℕ) × IsFrameOf s events way octets found
frame_found s events way octets =
    let w : WorldAt = world_after s events in
    choice (IsSuch s w way octets) (handed_in events) (suc w.departed) (not_beyond s events way octets)
    (known_below (IsSuch s w way octets) (handed_in events) (such_or_not s w way octets) (suc w.departed))

-- Whether it says a message of the peer

said_by_peer : (s : Setting) (to : End) (octets : List ℕ) (says : Result PtpMsg FrameFault) → Says octets says → IsOfPeer s to octets →
    is_forged s to.node to.port says ≡ true
said_by_peer s to octets says said of = ap (is_forged s to.node to.port) (ok_of octets says said (Ok of.0) of.1) ∙ of.2

of_peer_or_not : (s : Setting) (to : End) (octets : List ℕ) → Decided (IsOfPeer s to octets)
of_peer_or_not s to octets = let it = each_says octets in go it.0 it.1
  where
    go : (says : Result PtpMsg FrameFault) → Says octets says → Decided (IsOfPeer s to octets)
    go (Err fault) said = inr (λ of. true≢false (sym (said_by_peer s to octets (Err fault) said of)))
    go (Ok message) said = elim (cases_Bool (is_port message.head.source (port_of (s.set to.node) to.port).peer)) [
      | inl same ↦ inl (message, said, same)
      | inr other ↦ inr (λ of. true≢false (sym (said_by_peer s to octets (Ok message) said of) ∙ other))
    ]

-- Its fate

fate_by : (s : Setting) (events : List Happened) (way : Way) (octets : List ℕ) (found : Option ℕ) →
    IsFrameOf s events way octets found → (fate : Fate) × IsFate s events way octets fate
fate_by s events way octets (Some i) is = (Handed i, is)
fate_by s events way octets None none =
    elim (of_peer_or_not s way.to octets) [
      | inl peer ↦ (Forged, (none, peer))
      | inr other ↦ (Noisy, (none, other))
    ]

pub has_fate : (s : Setting) (events : List Happened) (way : Way) (octets : List ℕ) → (fate : Fate) × IsFate s events way octets fate
has_fate s events way octets = let it = frame_found s events way octets in fate_by s events way octets it.0 it.1
