use Rattle.std.proofs.Common.{◌∙◌, ap, sym, length}
use Rattle.cov_pods.proofs.Fitting.{looked_up, not_there, bad_package, bad_function, bad_count, good, short_functions, short_units}
use Rattle.cov_pods.proofs.counter_file.check_entry.Goals as goal

pub returns-in_default-clause-told : goal.returns-in_default-clause-told
returns-in_default-clause-told c = λ short few.
    let same = c.as_slice-packages.ensures in
    bad_package c.args.meta.now c.args.entry.now c.number-count.result (not_there _ _ _ same c.in_default.ensures.lookup.3)
    (c.number-count.ensures (rw same short.few_packages) ∙ ap length same)

pub returns-in_default-get-clause-told : goal.returns-in_default-get-clause-told
returns-in_default-get-clause-told c = λ short few.
    let found = looked_up _ _ _ c.in-Some.package.now c.as_slice-packages.ensures c.in-Some.ensures.lookup.3.0 c.in-Some.ensures.lookup.3.1 in
    let same = c.as_slice-functions.ensures in
    bad_function c.args.meta.now c.args.entry.now c.in-Some.package.now c.number-count-in_default-get.result found (not_there _ _ _ same c.in_default-get.ensures.lookup.3)
    (c.number-count-in_default-get.ensures (rw same (short_functions _ _ _ short found)) ∙ ap length same)

pub returns-then-counters-units-clause-told : goal.returns-then-counters-units-clause-told
returns-then-counters-units-clause-told c = λ short few.
    let found = looked_up _ _ _ c.in-Some.package.now c.as_slice-packages.ensures c.in-Some.ensures.lookup.3.0 c.in-Some.ensures.lookup.3.1 in
    let function = looked_up _ _ _ c.in-Some-get.function.now c.as_slice-functions.ensures c.in-Some-get.ensures.lookup.3.0 c.in-Some-get.ensures.lookup.3.1 in
    let units = c.len-units.ensures in
    let counters = c.len-counters.ensures in
    bad_count c.args.meta.now c.args.entry.now c.in-Some.package.now c.in-Some-get.function.now c.number-have.result c.number-want.result found function
    (λ e. c.if-counters-units.true (counters ∙ e ∙ sym units))
    (c.number-have.ensures (rw counters few) ∙ counters)
    (c.number-want.ensures (rw units (short_units _ _ _ _ _ short found function)) ∙ units)

pub returns-clause-fitting : goal.returns-clause-fitting
returns-clause-fitting c =
    let found = looked_up _ _ _ c.in-Some.package.now c.as_slice-packages.ensures c.in-Some.ensures.lookup.3.0 c.in-Some.ensures.lookup.3.1 in
    let function = looked_up _ _ _ c.in-Some-get.function.now c.as_slice-functions.ensures c.in-Some-get.ensures.lookup.3.0 c.in-Some-get.ensures.lookup.3.1 in
    good c.args.meta.now c.args.entry.now c.in-Some.package.now c.in-Some-get.function.now found function (sym c.len-counters.ensures ∙ c.if-counters-units.false ∙ c.len-units.ensures)

pub returns-clause-told : goal.returns-clause-told
returns-clause-told c = λ short few. sym (returns-clause-fitting c)
