use Rattle.std.proofs.Common.{◌≡◌, ◌+◌, ◌-◌, ◌<◌, suc, refl, ◌∙◌, arith, length-set}
use Rattle.cov_bytes.specs.Writing.{uleb_of}
use Rattle.cov_bytes.proofs.Spelling.{room, rest_bound, stored, stored_last}
use Rattle.cov_bytes.proofs.bytes.groups_of.Goals as goal

pub loop-rest-init : goal.loop-rest-init
unfolding uleb_of
loop-rest-init c = record {
  size = refl;
  within = omega arith;
  bound = omega arith;
  so_far = refl;
}

pub loop-rest-preserved : goal.loop-rest-preserved
loop-rest-preserved c =
    let l = c.loop-rest in
    let here : l.len < 4 = room l.len l.rest l.invariant.within c.loop-rest-test.true l.invariant.bound in
    let k : 5 - l.len ≡ suc (5 - (l.len + 1)) = omega arith in
    record {
      size = length-set l.groups l.len _ ∙ l.invariant.size;
      within = omega arith;
      bound = rest_bound (5 - (l.len + 1)) l.rest (rw k at l.invariant.bound);
      so_far = stored l.groups _ l.len _ l.rest here l.invariant.size c.loop-rest-test.true refl l.invariant.so_far;
    }

pub returns-clause-spelling : goal.returns-clause-spelling
returns-clause-spelling c = stored_last c.loop-rest.groups _ c.loop-rest.len c.loop-rest.rest c.loop-rest.invariant.within c.loop-rest.invariant.size c.loop-rest-test.false c.loop-rest.invariant.so_far
