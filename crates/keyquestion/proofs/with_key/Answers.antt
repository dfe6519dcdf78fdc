use Rattle.std.proofs.Common.{arith, ◌∙◌}
use Rattle.calls.proofs.Public.{ample_not, ample_is, lengths}
use Rattle.keyquestion.proofs.QuestionLaws.{ask_short, ask_bad, ask_room, ask_done}
use Rattle.keyquestion.proofs.with_key.Goals as goal

pub returns-then-not-long_enough : goal.returns-then-not-long_enough
returns-then-not-long_enough c = ask_short _ _ _ (ample_not _ _ c.long_enough.ensures c.if-not-long_enough.true)

pub signature-requires : goal.signature-requires
signature-requires c = let L = lengths _ _ _ _ _ _ _ _ _ c.long_enough.ensures c.if-not-long_enough.false in
    L.bytes

pub returns-then-not-is_key : goal.returns-then-not-is_key
returns-then-not-is_key c = ask_bad _ _ _ _ _ (ample_is _ _ c.long_enough.ensures c.if-not-long_enough.false) c.signature.ensures c.is_key.ensures (c.if-not-is_key.true)

pub key_number-requires : goal.key_number-requires
key_number-requires c = let L = lengths _ _ _ _ _ _ _ _ _ c.long_enough.ensures c.if-not-long_enough.false in
    (L.links, L.labels)

pub slots_used-requires : goal.slots_used-requires
slots_used-requires c = let L = lengths _ _ _ _ _ _ _ _ _ c.long_enough.ensures c.if-not-long_enough.false in
    L.used

pub meet-set-requires : goal.meet-set-requires
meet-set-requires c = let L = lengths _ _ _ _ _ _ _ _ _ c.long_enough.ensures c.if-not-long_enough.false in
    record { l0 = L.l0; l1 = L.l1; l2 = L.l2; l3 = L.l3 }

pub returns-then-out-n : goal.returns-then-out-n
returns-then-out-n c = ask_room _ _ _ _ _ (ample_is _ _ c.long_enough.ensures c.if-not-long_enough.false) c.signature.ensures c.is_key.ensures _ _ _ _ _ (c.if-not-is_key.false) (c.unwrap_or-k.ensures ∙ c.key_number.ensures) c.slots_used.ensures c.meet-set.ensures c.list-n.ensures.0 c.list-n.ensures.2 (omega (arith, c.if-out-n.true))

pub returns : goal.returns
returns c = ask_done _ _ _ _ _ (ample_is _ _ c.long_enough.ensures c.if-not-long_enough.false) c.signature.ensures c.is_key.ensures _ _ _ _ _ (c.if-not-is_key.false) (c.unwrap_or-k.ensures ∙ c.key_number.ensures) c.slots_used.ensures c.meet-set.ensures c.list-n.ensures.0 c.list-n.ensures.2 (omega (arith, c.if-out-n.false))
