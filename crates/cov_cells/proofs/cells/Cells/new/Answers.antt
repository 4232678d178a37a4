use Rattle.std.proofs.Common.{rules, arith, ℕ, suc, ◌≡◌, ◌∙◌, ap, sym, subst, refl, get_or, length, ◌<◌, ◌^◌, [], ◌∷◌, ◌++◌, Some, List, Option}
use Rattle.atomic_table.specs.Table.{opening}
use Rattle.go_state.specs.Runs.{RunState}
use Rattle.go_meaning.specs.Histories.{IsHistory}
use Rattle.cov_cells.proofs.Following.{begins_self}
use Rattle.cov_cells.specs.declared.view.Origin.{Origin}
use Rattle.cov_cells.specs.Rule.{Kept, Fits, origin_of, started, behind, first_view}
use Rattle.cov_cells.proofs.Ending.{opens}
use Rattle.cov_cells.proofs.cells.Cells.new.Goals as goal

pub new-requires : goal.new-requires
new-requires c =
    let all : c.as_slice.result.now ≡ 0 ∷ c.args.words.now = c.as_slice.ensures.value ∙ c.in_ok-all.ensures in
    let slots : c.push_reserved.new.self.items ≡ Some c.args.run ∷ [] = c.push_reserved.ensures.items ∙ ap (λ l. l ++ Some c.args.run ∷ []) c.in_ok-slots.ensures.items in
    let a : Origin = origin_of (record { mode = c.args.mode; words = c.of.result; run = c.of-2.result }) in
    let run : c.of-2.result.value ≡ c.args.run = c.of-2.ensures in
    let words : behind c.of.result.value.items ≡ c.args.words.now = ap (λ v. behind v.items) c.of.ensures ∙ ap behind c.in_ok-all.ensures in
    let kept : Kept a (opening (0 ∷ c.args.words.now) (Some c.args.run ∷ []) (first_view a)) =
    opens a (0 ∷ c.args.words.now) c.args.run (ap length words ∙ c.requires.words ∙ ap (λ r. r.program.units) (sym run)) (ap suc (c.requires.words ∙ ap (λ r. r.program.units) (sym run))) refl (λ u. ap (λ l. get_or l u 0) (sym words)) (λ u low. subst (λ (l : List ℕ). get_or l u 0 < 2 ^ 32) (sym words) (let h = c.type_inv.words u in omega (arith, h)))
    (subst (λ (r : RunState). Fits (started c.args.mode (behind c.of.result.value.items) r) c.args.run) (sym run)
    record { program = refl; limits = refl; room = c.requires.room; covered = c.known.ensures.history; begins = begins_self c.args.run.history })
    (ap (λ r. r.history) (sym run)) c.requires.served in
    subst (λ (ws : List ℕ). Kept a (opening ws c.push_reserved.new.self.items (first_view a))) (sym all)
    (subst (λ (xs : List (Option RunState)). Kept a (opening (0 ∷ c.args.words.now) xs (first_view a))) (sym slots) kept)
