use Rattle.std.proofs.Common.{◌≡◌, ◌∙◌, ◌<◌, ◌≤◌, ◌-◌, length, arith, vec_len}
use Rattle.std.proofs.lemmas.List.{length-take-le}
use Rattle.cov_counter.proofs.Fronts.{told_whole, told_part, front_more}
use Rattle.cov_counter.proofs.held.Held.read.Goals as goal

pub returns-then-n-eq0-clause-told : goal.returns-then-n-eq0-clause-told
returns-then-n-eq0-clause-told g c =
    let some : 0 < length c.read_at.new.buf = omega arith in
    let len : vec_len c.more.bytes ≡ length c.more.bytes.items = c.more.bytes.ok.0 in
    told_whole (g.F.Files.tree c.more.files) _ _ c.more.bytes.items c.read_at.new.buf c.len-at.result c.in-Some.n _ c.more.invariant.same c.more.invariant.front (omega (arith, c.more.invariant.within)) some c.in_ok-found.ensures.bytes (c.len-at.ensures ∙ len) c.in-Some.is c.if-n-eq0.true

pub returns-then-n-room-clause-told : goal.returns-then-n-room-clause-told
returns-then-n-room-clause-told g c =
    let len : vec_len c.more.bytes ≡ length c.more.bytes.items = c.more.bytes.ok.0 in
    let fits : c.in-Some.n ≤ length c.read_at.new.buf = rw c.in-Some.is at c.in_ok-found.ensures.bound in
    let over : 268435456 - length c.more.bytes.items < c.in-Some.n = omega (arith, c.if-n-room.true, c.len-at.ensures) in
    rw c.in_ok-extend_from_slice.ensures.items
    (told_part (g.F.Files.tree c.more.files) _ _ c.more.bytes.items c.read_at.new.buf c.len-at.result c.in-Some.n _ c.more.invariant.same c.more.invariant.front (omega (arith, c.more.invariant.within)) over fits c.in_ok-found.ensures.bytes (c.len-at.ensures ∙ len) c.in-Some.is)

pub more-preserved : goal.more-preserved
more-preserved g c =
    let len : vec_len c.more.bytes ≡ length c.more.bytes.items = c.more.bytes.ok.0 in
    let fits : c.in-Some.n ≤ length c.read_at.new.buf = rw c.in-Some.is at c.in_ok-found.ensures.bound in
    record {
      within = omega (arith, c.in_ok-extend_from_slice-2.ensures.len, length-take-le c.in-Some.n c.read_at.new.buf fits, c.if-n-room.false, c.len-at.ensures, c.more.invariant.within);
      same = c.in_ok-found.ensures.same ∙ c.more.invariant.same;
      reads = c.in_ok-found.ensures.cause ∙ c.more.invariant.reads;
      puts = c.in_ok-found.ensures.puts ∙ c.more.invariant.puts;
      front = rw c.in_ok-extend_from_slice-2.ensures.items (front_more (g.F.Files.tree c.more.files) _ _ c.more.bytes.items c.read_at.new.buf c.len-at.result c.in-Some.n _ c.in_ok-found.ensures.same c.more.invariant.front fits c.in_ok-found.ensures.bytes (c.len-at.ensures ∙ len) c.in-Some.is);
    }
