-- Declarations one at a time.
use Rattle.std.proofs.Common.{◌≡◌, ℕ, Bool, true, cond, List, [], ◌∷◌, ◌++◌, sym, ap, ◌∙◌, subst, length, map, get_or, drop, ◌+◌, ◌<◌, arith}
use Rattle.std.specs.Prelude.{All}
use Rattle.std.specs.List.{flat_map}
use Rattle.std.proofs.lemmas.List.{map-append}
use Rattle.go_ast.specs.declared.decl.Decl.{Decl}
use Rattle.go_ast.specs.declared.decl.Decl.TheVariants as decl
use Rattle.go_ast.specs.declared.decl.Func.{Func}
use Rattle.cov_cut.specs.declared.unit.FuncUnits.{FuncUnits}
use Rattle.cov_cut.specs.Units.{Fits, func_lists, func_units, cut_in, is_cut}
use Rattle.cov_cut.proofs.Walks.{all_left, all_right, drop_at}
use Rattle.std.proofs.Common.{append_assoc}

abbrev pub AllFit : Func → Type 0
AllFit f = All Fits (func_lists f)

in_at : (ds : List Decl) (i : ℕ) (x : Decl) → i < length ds → x ≡ get_or ds i x → flat_map cut_in (drop i ds) ≡ cut_in x ++ flat_map cut_in (drop (i + 1) ds)
in_at ds i x h e = ap (flat_map cut_in) (drop_at ds i x h e)

pub decl_here : (ds : List Decl) (i : ℕ) (x : Decl) → i < length ds → x ≡ get_or ds i x → All AllFit (flat_map cut_in (drop i ds)) → All AllFit (cut_in x)
decl_here ds i x h e f = all_left AllFit (cut_in x) (flat_map cut_in (drop (i + 1) ds)) (subst (All AllFit) (in_at ds i x h e) f)

pub decl_later : (ds : List Decl) (i : ℕ) (x : Decl) → i < length ds → x ≡ get_or ds i x → All AllFit (flat_map cut_in (drop i ds)) → All AllFit (flat_map cut_in (drop (i + 1) ds))
decl_later ds i x h e f = all_right AllFit (cut_in x) (flat_map cut_in (drop (i + 1) ds)) (subst (All AllFit) (in_at ds i x h e) f)

pub decl_step : (ds : List Decl) (i : ℕ) (x : Decl) (old new done : List FuncUnits) → i < length ds → x ≡ get_or ds i x
    → old ++ map func_units (flat_map cut_in (drop i ds)) ≡ done → new ≡ old ++ map func_units (cut_in x) → new ++ map func_units (flat_map cut_in (drop (i + 1) ds)) ≡ done
decl_step ds i x old new done h e before step =
    ap (λ l. l ++ map func_units (flat_map cut_in (drop (i + 1) ds))) step
    ∙ append_assoc old (map func_units (cut_in x)) (map func_units (flat_map cut_in (drop (i + 1) ds)))
    ∙ ap (λ l. old ++ l) (sym (map-append func_units (cut_in x) (flat_map cut_in (drop (i + 1) ds))) ∙ sym (ap (map func_units) (in_at ds i x h e)))
    ∙ before

pub func_cut : (d : Decl) (f : Func) (b : Bool) → d ≡ decl.Func f → b ≡ is_cut f → b ≡ true → cut_in d ≡ f ∷ []
func_cut d f b e g h = ap cut_in e ∙ ap (λ t. cond t (f ∷ []) []) (sym g ∙ h)

pub func_fits : (d : Decl) (f : Func) (b : Bool) → d ≡ decl.Func f → b ≡ is_cut f → b ≡ true → All AllFit (cut_in d) → AllFit f
func_fits d f b e g h all = subst (All AllFit) (func_cut d f b e g h) all 0 f (omega arith)
