use Rattle.std.proofs.Common.{◌≡◌, ◌+◌, ◌-◌, get_or, ◌∙◌}
use Rattle.go_ast.specs.Places.{line_starts, place_at}
use Rattle.go_ast.proofs.Located.{place_is, same_record}
use Rattle.go_ast.proofs.lines.Lines.place.Goals as goal

pub returns : goal.returns
returns c text e le =
    let line = c.lines_until-line.result in
    let start = c.index.result.now in
    let starts = c.deref.result.now in
    let value : starts ≡ c.self.inside.starts.items = c.deref.ensures.value in
    let at : start ≡ get_or starts (line - 1) start = rw value c.index.ensures in
    let same : starts ≡ line_starts text = value ∙ c.self.view_is ∙ e in
    same_record line (c.args.offset - start + 1) (place_at text c.args.offset)
    (place_is text starts c.args.offset line start same le c.lines_until-line.ensures.some c.lines_until-line.ensures.within c.lines_until-line.ensures.before c.lines_until-line.ensures.after at)
