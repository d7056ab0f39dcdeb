-- With each step the iterator gives eleven words from the front of what is left of the list.
use mathlib.Core.Path.{sym, ◌∙◌}
use native.Mathlib.Omega.{arith}
use borrow.Author.Rules.{rules}
use lib.ListN.{length-append}
use Rattle.words.proofs.Puts.{turns_none}
use Rattle.profile.proofs.Reflecting.{one_there, one_fits, one_more, rest_on, all_put}
use Rattle.profile.proofs.reflectors.put_reflectors.Goals as goal

pub loop-reflector-init : goal.loop-reflector-init
loop-reflector-init c = (turns_none _ _ _, search rules, search rules, omega arith)

pub put_reflector-at-requires-clause-room : goal.put_reflector-at-requires-clause-room
put_reflector-at-requires-clause-room c =
    let i = c.loop-reflector.invariant in
    let s = c.in-Some.ensures.steps in
    one_fits _ _ _ _ c.requires _ i.0 _ _ (i.1 ∙ s.1.0) (s.1.1 ∙ i.2)

pub loop-reflector-preserved : goal.loop-reflector-preserved
loop-reflector-preserved c =
    let i = c.loop-reflector.invariant in
    let s = c.in-Some.ensures.steps in
    let cut = i.1 ∙ s.1.0 in
    let eleven = s.1.1 ∙ i.2 in
    rw length-append (
      one_more _ _ _ _ c.requires _ i.0 _ _ cut eleven c.put_reflector-at.ensures,
      sym (rest_on _ _ _ _ c.requires _ i.0 _ _ cut eleven),
      s.0 ∙ i.2,
      omega (arith, one_there _ _ _ _ c.requires _ i.0 _ _ cut eleven),
    )

pub returns : goal.returns
returns c =
    let i = c.loop-reflector.invariant in
    let s = c.in-None.ensures.steps in
    all_put _ _ _ _ c.requires _ i.0 i.3 (rw (i.1, ← i.2) s.1.0)
