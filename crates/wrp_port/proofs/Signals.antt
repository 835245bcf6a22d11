-- White Rabbit messages, sent one after the other.
use Rattle.std.proofs.Common.{◌≡◌, ◌∙◌, ap, sym, subst, ℕ, ◌+◌, ◌<◌, ◌≤◌, List, [], ◌∷◌, ◌++◌, length, get_or, drop}
use Rattle.std.proofs.lemmas.List.{append-nil, append_assoc, drop_all, drop_more}
use Rattle.wrp_base.specs.declared.message.PtpMsg.{PtpMsg}
use Rattle.wrp_base.specs.declared.message.WrMsg.{WrMsg}
use Rattle.wrp_port.specs.declared.setting.Setting.{Setting}
use Rattle.wrp_port.specs.Messages.{next_id, signal_of, signals_of}

-- before the first message
pub none_sent : (set : Setting) (first : ℕ) (messages : List WrMsg) (sent : List PtpMsg) → sent ≡ [] → sent ++ signals_of set first messages ≡ signals_of set first messages
none_sent set first messages sent e = ap (λ s. s ++ signals_of set first messages) e

-- one message more
pub one_sent :
    (set : Setting) (seq i : ℕ) (items messages : List WrMsg) (sent next whole : List PtpMsg) (one : PtpMsg) (d : WrMsg) →
    i < length items →
    items ≡ messages →
    next ≡ sent ++ one ∷ [] →
    one ≡ signal_of set seq (get_or items i d) →
    sent ++ signals_of set seq (drop i messages) ≡ whole →
    next ++ signals_of set (next_id seq) (drop (i + 1) messages) ≡ whole
one_sent set seq i items messages sent next whole one d h same grows is e =
    let rest : List PtpMsg = signals_of set (next_id seq) (drop (i + 1) messages) in
    let within : i < length messages = subst (λ xs. i < length xs) same h in
    let sends : one ≡ signal_of set seq (get_or messages i d) = is ∙ ap (λ xs. signal_of set seq (get_or xs i d)) same in
    ap (λ n. n ++ rest) grows
    ∙ append_assoc sent (one ∷ []) rest
    ∙ ap (λ m. sent ++ (m ∷ rest)) sends
    ∙ ap (λ left. sent ++ signals_of set seq left) (sym (drop_more messages i d within))
    ∙ e

-- after the last message
pub all_sent : (set : Setting) (seq i : ℕ) (messages : List WrMsg) (sent whole : List PtpMsg) → length messages ≤ i → sent ++ signals_of set seq (drop i messages) ≡ whole → sent ≡ whole
all_sent set seq i messages sent whole h e =
    sym (append-nil sent) ∙ ap (λ left. sent ++ signals_of set seq left) (sym (drop_all i messages h)) ∙ e
