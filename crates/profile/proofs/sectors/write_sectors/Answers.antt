-- With each step the iterator gives the arc at its count, which is the sector's number.
use mathlib.Core.Path.{◌≡◌, refl, ◌∙◌}
use mathlib.Core.Logic.{inl}
use native.Mathlib.Omega.{arith}
use Prim.Native.Nat.{◌+◌, ◌≤◌}
use borrow.Author.Rules.{rules}
use lib.ListN.{length}
use Rattle.plan.specs.Shots.{arc_at}
use Rattle.words.proofs.Puts.{turns_none}
use Rattle.profile.proofs.PointSums.{count_fits}
use Rattle.profile.proofs.SectorTurns.{few_arcs, arc_found, sector_asked, sector_fits, sector_more, sectors_done}
use Rattle.profile.proofs.sectors.write_sectors.Goals as goal

pub loop-k-init : goal.loop-k-init
loop-k-init c =
    rw (c.into_iter-k-iterator.ensures.into_iter_gives, c.enumerate-k-items.ensures.count) (turns_none _ _ _, search rules, omega arith)

pub loop-k-init-derived : goal.loop-k-init-derived
loop-k-init-derived c =
    let few = few_arcs c.args.plan c.args.step.0 c.requires.eight in
    let e = c.enumerate-k-items.ensures in
    ((tt, tt, inl (rw (c.into_iter-k-iterator.ensures.into_iter_gives, e.count, e.source, c.arcs_of.ensures.gives) (omega (arith, few)))), tt)

pub overflow_cast-k : goal.overflow_cast-k
overflow_cast-k c =
    let s = c.in-Some.ensures.steps in
    let a = arc_found c.args.plan c.args.step.0 c.loop-k.k-iterator.count (c.loop-k.invariant.1 ∙ s.0) in
    let many = count_fits _ _ c.requires.eight refl in
    record { fits = omega (arith, s.1, a.active) }

-- what is shown of the turn is shown of the sector's number and of the arc that is handed on, whichever call that comes from
pub write_sector-at-requires : goal.write_sector-at-requires
write_sector-at-requires c =
    let s = c.in-Some.ensures.steps in
    let a = arc_found c.args.plan c.args.step.0 c.loop-k.k-iterator.count (c.loop-k.invariant.1 ∙ s.0) in
    let here : c.in-Some.arc ≡ arc_at c.args.plan c.args.step.0 c.in-Some.k = rw s.1 a.here in
    search (sector_asked c.requires refl (rw (← s.1) at c.loop-k.invariant.0) (rw (← s.1) at a.active), here)

pub overflow_add-at : goal.overflow_add-at
overflow_add-at c =
    let s = c.in-Some.ensures.steps in
    let a = arc_found c.args.plan c.args.step.0 c.loop-k.k-iterator.count (c.loop-k.invariant.1 ∙ s.0) in
    let here : c.in-Some.arc ≡ arc_at c.args.plan c.args.step.0 c.in-Some.k = rw s.1 a.here in
    let h : c.loop-k.at + c.write_sector-at.result ≤ length c.loop-k.out =
    search (sector_fits c.requires refl (rw (← s.1) at c.loop-k.invariant.0) (rw (← s.1) at a.active), here) in
    record { fits = omega arith }

pub loop-k-preserved : goal.loop-k-preserved
loop-k-preserved c =
    let s = c.in-Some.ensures.steps in
    let a = arc_found c.args.plan c.args.step.0 c.loop-k.k-iterator.count (c.loop-k.invariant.1 ∙ s.0) in
    let here : c.in-Some.arc ≡ arc_at c.args.plan c.args.step.0 c.in-Some.k = rw s.1 a.here in
    rw (s.2, ← s.1) (
      search (sector_more c.requires refl (rw (← s.1) at c.loop-k.invariant.0) (rw (← s.1) at a.active), here),
      rw (← s.1) at a.behind,
      omega (arith, a.active, s.1),
    )

pub returns : goal.returns
returns c =
    let s = c.in-None.ensures.steps in
    sectors_done c.requires refl c.loop-k.invariant.0 c.loop-k.invariant.2 (c.loop-k.invariant.1 ∙ s.0.0)
