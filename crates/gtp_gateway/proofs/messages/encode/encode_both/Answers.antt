use Rattle.std.proofs.Common.{sym, ◌∙◌, ap, subst}
use Rattle.gtp_v2.specs.Pair.{paired}
use Rattle.gtp_gateway.specs.messages.Spelled.{messages_in, AreSpelledAll}
use Rattle.gtp_gateway.proofs.Own.{pair_in, pair_kept, pair_back}
use Rattle.gtp_gateway.proofs.messages.encode.encode_both.Goals as goal

pub returns-in-Ok-clause-read : goal.returns-in-Ok-clause-read
returns-in-Ok-clause-read c =
    let f = c.in_ok-front.ensures in
    let b = c.in_ok-back.ensures in
    ap messages_in (c.in-Ok.ensures ∙ (λ i. paired (c.as_slice.ensures.value i) (c.as_slice-2.ensures.value i)))
    ∙ pair_in c.in_ok-front.front.items c.in_ok-back.back.items c.args.first.now c.args.second.now c.requires.first f.message b.message f.spelled b.spelled

pub returns-in-Ok-clause-back : goal.returns-in-Ok-clause-back
returns-in-Ok-clause-back c =
    let f = c.in_ok-front.ensures in
    let b = c.in_ok-back.ensures in
    pair_back c.in_ok-front.front.items c.in_ok-back.back.items c.args.first.now c.args.second.now c.requires.first f.message b.message f.spelled b.spelled

pub returns-in-Ok-clause-kept : goal.returns-in-Ok-clause-kept
returns-in-Ok-clause-kept c =
    let f = c.in_ok-front.ensures in
    let b = c.in_ok-back.ensures in
    subst AreSpelledAll (sym (c.in-Ok.ensures ∙ (λ i. paired (c.as_slice.ensures.value i) (c.as_slice-2.ensures.value i))))
    (pair_kept c.in_ok-front.front.items c.in_ok-back.back.items c.args.first.now c.args.second.now c.requires.first f.message b.message f.spelled b.spelled)
