-- By the marks of a complete handshake both ends are in the same handshake.
use Rattle.std.proofs.Common.{◌≡◌, refl, sym, subst, inl, inr, ℕ, ◌≤◌, pos, ◌≤ℤ◌, List, [], ◌∷◌, length, drop, reverse, Ok, arith}
use Rattle.std.proofs.lemmas.Int.{ints}
use Rattle.wrp_base.specs.declared.link.LinkState.TheVariants.{Present, SLock, MLock, Locked, Calibration, Calibrated, RespCalib, LinkOn}
use Rattle.wrp_base.specs.declared.link.Mark.{Mark}
use Rattle.wrp_base.specs.declared.link.Role.{Role}
use Rattle.wrp_base.specs.declared.link.Role.TheVariants.{Master, Slave}
use Rattle.wrp_base.specs.declared.message.WrMsg.TheVariants.{Lock as LOCK, Locked as LOCKED, Calibrate as CALIBRATE, Calibrated as CALIBRATED, ModeOn as WR_MODE_ON}
use Rattle.wrp_check.specs.Judged.{Judges}
use Rattle.wrp_check.specs.Stretches.{LiesIn, Entered}
use Rattle.wrp_pcap.specs.Marks.{Rises, slave_marks, master_marks}

-- a number as a time
at_most : (a b : ℕ) → a ≤ b → pos a ≤ℤ pos b
at_most a b h = omega (arith, ints, h)

pub judged_slave : (c : List ℕ) → length c ≡ 8 → Rises c → Judges Slave (reverse (slave_marks c)) (reverse (master_marks c)) (Ok tt)
judged_slave (p1 ∷ p2 ∷ p3 ∷ p4 ∷ p5 ∷ p6 ∷ p7 ∷ p8 ∷ []) long (a, (b, (d, (e, (f, (g, (h, _))))))) =
    let stretch = reverse (master_marks (p1 ∷ p2 ∷ p3 ∷ p4 ∷ p5 ∷ p6 ∷ p7 ∷ p8 ∷ [])) in
    let lies : (n : ℕ) → p2 ≤ n → LiesIn (pos n) stretch = λ n k. record { began = at_most p2 n k; lasts = λ idle. absurd cc } in
    let m_lock : (n : ℕ) → p2 ≤ n → Entered (pos n) (MLock ∷ []) (drop 4 stretch) =
    λ n k. inl (record { is = refl; by = at_most p2 n k; others = tt }) in
    let calibration : (n : ℕ) → p4 ≤ n → Entered (pos n) (Calibration ∷ MLock ∷ []) (drop 3 stretch) =
    λ n k. inl (record { is = refl; by = at_most p4 n k; others = m_lock n (omega arith) }) in
    let calibrated : (n : ℕ) → p5 ≤ n → Entered (pos n) (Calibrated ∷ Calibration ∷ MLock ∷ []) (drop 2 stretch) =
    λ n k. inl (record { is = refl; by = at_most p5 n k; others = calibration n (omega arith) }) in
    let on : Entered (pos p8) (LinkOn ∷ RespCalib ∷ Calibrated ∷ Calibration ∷ MLock ∷ []) stretch =
    inl (record { is = refl; by = at_most p8 p8 (omega arith); others = inl (record { is = refl; by = at_most p6 p8 (omega arith); others = calibrated p8 (omega arith) }) }) in (
      refl,
      record {
        stretch = stretch;
        sent = record {
          last = (WR_MODE_ON, pos p8);
          others = (CALIBRATED 0 0, pos p5) ∷ ((CALIBRATE 0 0 0, pos p4) ∷ ((LOCK, pos p2) ∷ []));
          movers = refl;
          newest = record { newer = []; older = []; splits = refl; misses = tt; lies = lies p8 (omega arith) };
          sent = (lies p8 (omega arith), (lies p5 (omega arith), (lies p4 (omega arith), (lies p2 (omega arith), tt))));
        };
        backed = (
          on,
          (
            inr (inr (calibrated p5 (omega arith))),
            (inr (inr (inr (calibration p4 (omega arith)))), (inr (inr (inr (inr (m_lock p2 (omega arith))))), tt)),
          ),
        );
      },
    )
judged_slave _ long rises = absurd (omega (arith, long))

pub judged_master : (c : List ℕ) → length c ≡ 8 → Rises c → Judges Master (reverse (master_marks c)) (reverse (slave_marks c)) (Ok tt)
judged_master (p1 ∷ p2 ∷ p3 ∷ p4 ∷ p5 ∷ p6 ∷ p7 ∷ p8 ∷ []) long (a, (b, (d, (e, (f, (g, (h, _))))))) =
    let stretch = reverse (slave_marks (p1 ∷ p2 ∷ p3 ∷ p4 ∷ p5 ∷ p6 ∷ p7 ∷ p8 ∷ [])) in
    let lies : (n : ℕ) → p1 ≤ n → LiesIn (pos n) stretch = λ n k. record { began = at_most p1 n k; lasts = λ idle. absurd cc } in
    let locked : (n : ℕ) → p3 ≤ n → Entered (pos n) (Locked ∷ SLock ∷ Present ∷ []) (drop 4 stretch) =
    λ n k. inl (record { is = refl; by = at_most p3 n k; others = inl (record { is = refl; by = at_most p2 n (omega arith); others = inl (record { is = refl; by = at_most p1 n (omega arith); others = tt }) }) }) in
    let calibration : (n : ℕ) → p6 ≤ n → Entered (pos n) (Calibration ∷ RespCalib ∷ Locked ∷ SLock ∷ Present ∷ []) (drop 2 stretch) =
    λ n k. inl (record { is = refl; by = at_most p6 n k; others = inl (record { is = refl; by = at_most p4 n (omega arith); others = locked n (omega arith) }) }) in
    let calibrated : Entered (pos p7) (Calibrated ∷ Calibration ∷ RespCalib ∷ Locked ∷ SLock ∷ Present ∷ []) (drop 1 stretch) =
    inl (record { is = refl; by = at_most p7 p7 (omega arith); others = calibration p7 (omega arith) }) in (
      refl,
      record {
        stretch = stretch;
        sent = record {
          last = (CALIBRATED 0 0, pos p7);
          others = (CALIBRATE 0 0 0, pos p6) ∷ ((LOCKED, pos p3) ∷ []);
          movers = refl;
          newest = record { newer = []; older = []; splits = refl; misses = tt; lies = lies p7 (omega arith) };
          sent = (lies p7 (omega arith), (lies p6 (omega arith), (lies p3 (omega arith), tt)));
        };
        backed = (
          inr calibrated,
          (inr (inr (calibration p6 (omega arith))), (inr (inr (inr (inr (locked p3 (omega arith))))), tt)),
        );
      },
    )
judged_master _ long rises = absurd (omega (arith, long))

-- the same for lists that are these
pub judges_same : (role : Role) (own own_marks peer peer_marks : List Mark) → own ≡ own_marks → peer ≡ peer_marks →
    Judges role (reverse own_marks) (reverse peer_marks) (Ok tt) → Judges role (reverse own) (reverse peer) (Ok tt)
judges_same role own own_marks peer peer_marks e f h =
    subst (λ (ms : List Mark). Judges role (reverse ms) (reverse peer) (Ok tt)) (sym e)
    (subst (λ (ms : List Mark). Judges role (reverse own_marks) (reverse ms) (Ok tt)) (sym f) h)
