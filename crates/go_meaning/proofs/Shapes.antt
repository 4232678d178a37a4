-- Steps don't look at the places of statements in the source.
use Rattle.std.proofs.Common.{◌≡◌, ℕ, zero, suc, Bool, cond, not, ◌&&◌, ◌||◌, List, [], ◌∷◌, Option, Some, None, refl, ap, ap₂, ◌∙◌, map}
use mathlib.Core.Path.{fun_ext}
use Rattle.std.specs.Prelude.{slice_get, slice_index_or, ◌==◌, option_map, is_some}
use Rattle.std.specs.List.{list_any}
use Rattle.std.specs.Option.{option_or}
use Rattle.go_value.specs.declared.int.Int.{Int}
use Rattle.go_meaning.specs.declared.value.Value.{Value}
use Rattle.go_meaning.specs.declared.node.Node.{Node}
use Rattle.go_meaning.specs.declared.node.NodeForm.{NodeForm}
use Rattle.go_meaning.specs.declared.node.NodeForm.TheVariants as node
use Rattle.go_meaning.specs.declared.item.Item.{Item}
use Rattle.go_meaning.specs.declared.item.Item.TheVariants.{Run, Loop, Test, Next, Each, Pull, Match, Compare, Pick}
use Rattle.go_meaning.specs.declared.act.Act.{Act}
use Rattle.go_meaning.specs.declared.config.Call.{Call}
use Rattle.go_meaning.specs.declared.config.Frame.{Frame}
use Rattle.go_meaning.specs.declared.config.Goroutine.{Goroutine}
use Rattle.go_meaning.specs.declared.config.Config.{Config}
use Rattle.go_meaning.specs.declared.event.Event.{Event}
use Rattle.go_meaning.specs.declared.event.Event.TheVariants.{Step, Count}
use Rattle.go_meaning.specs.Programs.{Parts, list_at, form_of, form_at}
use Rattle.go_meaning.specs.Values.{is_equal}
use Rattle.go_meaning.specs.Operations.{top, on_value, on_flag, on_number, on_text}
use Rattle.go_meaning.specs.Acts.{Slots, run, loop, decided, next, each, matched, act_of}
use Rattle.go_meaning.specs.Acts as acts
use Rattle.go_meaning.specs.Moves.{Move, put}
use Rattle.go_meaning.specs.Channels.{Side, Sides, pull_side, pick_sides, item_sides, control_sides, frame_sides, sides_of, side_at, partner_sides, listed, exchange, by_itself, has_partner, is_ready, lone, Defaults, Neither, Offers, Wants}
use Rattle.go_meaning.specs.Steps.{at_zero, on_item, on_control, on_frames, alone, arrive, arrive_both, count_of, due_item, due_frames, due, counted_at, arrive_one, step}
use Rattle.go_meaning.specs.Shapes.{shape_of_form, shape_of_node, shape}

-- ---- a statement

run_shape : (n i : ℕ) (o : Option NodeForm) → run n i (option_map shape_of_form o) ≡ run n i o
run_shape n i None = refl
run_shape n i (Some (node.Block l b)) = refl
run_shape n i (Some form) = refl

loop_shape : (n i : ℕ) (o : Option NodeForm) → loop n i (option_map shape_of_form o) ≡ loop n i o
loop_shape n i None = refl
loop_shape n i (Some (node.Block l b)) = refl
loop_shape n i (Some form) = refl

test_shape : (n i : ℕ) (o : Option NodeForm) (b : Bool) → decided n i (option_map shape_of_form o) b ≡ decided n i o b
unfolding decided
test_shape n i None b = refl
test_shape n i (Some (node.Block l x)) b = refl
test_shape n i (Some form) b = refl

next_shape : (n i : ℕ) (o : Option NodeForm) → next n i (option_map shape_of_form o) ≡ next n i o
next_shape n i None = refl
next_shape n i (Some (node.Block l b)) = refl
next_shape n i (Some form) = refl

each_shape : (n i : ℕ) (o : Option NodeForm) (at : Int) (s : List ℕ) → each n i (option_map shape_of_form o) at s ≡ each n i o at s
unfolding each
each_shape n i None at s = refl
each_shape n i (Some (node.Block l b)) at s = refl
each_shape n i (Some form) at s = refl

match_shape : (n i k : ℕ) (o : Option NodeForm) → matched n i k (option_map shape_of_form o) ≡ matched n i k o
unfolding matched
match_shape n i k None = refl
match_shape n i k (Some (node.Block l b)) = refl
match_shape n i k (Some form) = refl

compare_shape : (n i k : ℕ) (o : Option NodeForm) (b : Bool) → acts.compare n i k (option_map shape_of_form o) b ≡ acts.compare n i k o b
unfolding acts.compare
compare_shape n i k None b = refl
compare_shape n i k (Some (node.Block l x)) b = refl
compare_shape n i k (Some form) b = refl

pull_shape : (n i : ℕ) (o : Option NodeForm) (f : Frame) (fs : List Frame) (rest : List Item) (st : List Value) → pull_side n i (option_map shape_of_form o) f fs rest st ≡ pull_side n i o f fs rest st
pull_shape n i None f fs rest st = refl
pull_shape n i (Some (node.Block l b)) f fs rest st = refl
pull_shape n i (Some form) f fs rest st = refl

pick_shape : (o : Option NodeForm) (f : Frame) (fs : List Frame) (rest : List Item) → pick_sides (option_map shape_of_form o) f fs rest ≡ pick_sides o f fs rest
pick_shape None f fs rest = refl
pick_shape (Some (node.Block l b)) f fs rest = refl
pick_shape (Some form) f fs rest = refl

count_shape : (o : Option NodeForm) → count_of (option_map shape_of_form o) ≡ count_of o
count_shape None = refl
count_shape (Some (node.Block l b)) = refl
count_shape (Some form) = refl

-- ---- where it stands

forms_shape : (ns : List Node) (i : ℕ) → form_of (slice_get (map shape_of_node ns) i) ≡ option_map shape_of_form (form_of (slice_get ns i))
forms_shape [] zero = refl
forms_shape [] (suc i) = refl
forms_shape (n ∷ ns) zero = refl
forms_shape (n ∷ ns) (suc i) = forms_shape ns i

lists_shape : (ls : List (List Node)) (n : ℕ) → slice_index_or (map (map shape_of_node) ls) n [] ≡ map shape_of_node (slice_index_or ls n [])
lists_shape [] zero = refl
lists_shape [] (suc n) = refl
lists_shape (l ∷ ls) zero = refl
lists_shape (l ∷ ls) (suc n) = lists_shape ls n

module _ (P : Parts) where
  form_shape : (n i : ℕ) → form_at (shape P) n i ≡ option_map shape_of_form (form_at P n i)
  unfolding shape
  form_shape n i = ap (λ l. form_of (slice_get l i)) (lists_shape P.lists n) ∙ forms_shape (list_at P n) i

  -- ---- a goroutine alone

  act_shape : (c : Config) (it : Item) (slots : Slots) (st : List Value) → act_of (shape P) c it slots st ≡ act_of P c it slots st
  unfolding act_of
  act_shape c (Run n i) slots st = ap (run n i) (form_shape n i) ∙ run_shape n i (form_at P n i)
  act_shape c (Loop n i) slots st = ap (loop n i) (form_shape n i) ∙ loop_shape n i (form_at P n i)
  act_shape c (Test n i) slots st = ap (λ o. on_flag (top 0 st) (decided n i o)) (form_shape n i) ∙ ap (on_flag (top 0 st)) (fun_ext (λ b. test_shape n i (form_at P n i) b))
  act_shape c (Next n i) slots st = ap (next n i) (form_shape n i) ∙ next_shape n i (form_at P n i)
  act_shape c (Each n i) slots st =
      ap (λ o. on_number (top 0 st) (λ at. on_text (top 1 st) (each n i o at))) (form_shape n i)
      ∙ ap (on_number (top 0 st)) (fun_ext (λ at. ap (on_text (top 1 st)) (fun_ext (λ s. each_shape n i (form_at P n i) at s))))
  act_shape c (Match n i k) slots st = ap (λ o. on_value (top 0 st) (λ tag. matched n i k o)) (form_shape n i) ∙ ap (λ a. on_value (top 0 st) (λ tag. a)) (match_shape n i k (form_at P n i))
  act_shape c (Compare n i k) slots st =
      ap (λ o. on_value (top 0 st) (λ v. on_value (top 1 st) (λ tag. acts.compare n i k o (is_equal v tag)))) (form_shape n i)
      ∙ ap (on_value (top 0 st)) (fun_ext (λ v. ap (on_value (top 1 st)) (fun_ext (λ tag. compare_shape n i k (form_at P n i) (is_equal v tag)))))
  act_shape c it slots st = refl

  put_shape : (c : Config) (i : ℕ) (f : Frame) (fs : List Frame) (rest : List Item) (a : Act) → put (shape P) c i f fs rest a ≡ put P c i f fs rest a
  unfolding put shape
  put_shape c i f fs rest a = refl

  -- ---- sides

  sides_shape : (it : Item) (f : Frame) (fs : List Frame) (rest : List Item) → item_sides (shape P) it f fs rest ≡ item_sides P it f fs rest
  sides_shape (Pull n i) f fs rest = ap (λ o. Rattle.go_meaning.specs.Channels.Plain (pull_side n i o f fs rest f.stack)) (form_shape n i) ∙ ap Rattle.go_meaning.specs.Channels.Plain (pull_shape n i (form_at P n i) f fs rest f.stack)
  sides_shape (Pick n i) f fs rest = ap (λ o. pick_sides o f fs rest) (form_shape n i) ∙ pick_shape (form_at P n i) f fs rest
  sides_shape it f fs rest = refl

  control_shape : (f : Frame) (fs : List Frame) (is : List Item) → control_sides (shape P) f fs is ≡ control_sides P f fs is
  control_shape f fs [] = refl
  control_shape f fs (it ∷ is) = sides_shape it f fs is

  frame_shape : (b : Option Call) (fs : List Frame) → frame_sides (shape P) b fs ≡ frame_sides P b fs
  frame_shape (Some call) fs = refl
  frame_shape None [] = refl
  frame_shape None (f ∷ fs) = control_shape f fs f.control

  goroutine_shape : (o : Option Goroutine) → sides_of (shape P) o ≡ sides_of P o
  goroutine_shape None = refl
  goroutine_shape (Some go) = frame_shape go.begin go.frames

  partner_shape : (c : Config) (i : ℕ) (s : Side) (j : ℕ) (gos : List Goroutine) → has_partner (shape P) c i s j gos ≡ has_partner P c i s j gos
  partner_shape c i s j [] = refl
  partner_shape c i s j (go ∷ gos) =
      ap₂ (λ ss b. (not (i == j) && list_any (λ t. is_some (exchange c s t)) (listed (partner_sides ss))) || b) (goroutine_shape (Some go)) (partner_shape c i s (suc j) gos)

  lone_shape : (c : Config) (i : ℕ) (ss : Sides) (s : Side) → lone (shape P) c i ss s ≡ lone P c i ss s
  unfolding lone
  lone_shape c i ss (Defaults a) = ap (λ r. cond (list_any r (listed ss)) None (Some (Rattle.go_meaning.specs.Moves.moved c a))) (fun_ext (λ s. ap (λ b. is_some (by_itself c s) || b) (partner_shape c i s 0 c.goroutines)))
  lone_shape c i ss s = refl

  -- ---- steps

  item_shape : (c : Config) (i k : ℕ) (f : Frame) (fs : List Frame) (it : Item) (rest : List Item) → on_item (shape P) c i k f fs it rest ≡ on_item P c i k f fs it rest
  item_shape c i k f fs it rest =
      ap₂ option_or
      (ap (λ ss. lone (shape P) c i ss (side_at ss k)) (sides_shape it f fs rest) ∙ lone_shape c i (item_sides P it f fs rest) (side_at (item_sides P it f fs rest) k))
      (ap (λ a. at_zero k (put (shape P) c i f fs rest a)) (act_shape c it f.slots f.stack) ∙ ap (at_zero k) (put_shape c i f fs rest (act_of P c it f.slots f.stack)))

  on_control_shape : (c : Config) (i k : ℕ) (f : Frame) (fs : List Frame) (is : List Item) → on_control (shape P) c i k f fs is ≡ on_control P c i k f fs is
  on_control_shape c i k f fs [] = refl
  on_control_shape c i k f fs (it ∷ is) = item_shape c i k f fs it is

  on_frames_shape : (c : Config) (i k : ℕ) (b : Option Call) (fs : List Frame) → on_frames (shape P) c i k b fs ≡ on_frames P c i k b fs
  unfolding shape
  on_frames_shape c i k (Some call) fs = refl
  on_frames_shape c i k None [] = refl
  on_frames_shape c i k None (f ∷ fs) = on_control_shape c i k f fs f.control

  alone_shape : (c : Config) (i k : ℕ) (o : Option Goroutine) → alone (shape P) c i k o ≡ alone P c i k o
  alone_shape c i k None = refl
  alone_shape c i k (Some go) = on_frames_shape c i k go.begin go.frames

  due_item_shape : (is : List Item) → due_item (shape P) is ≡ due_item P is
  due_item_shape (Run n i ∷ is) = ap count_of (form_shape n i) ∙ count_shape (form_at P n i)
  due_item_shape [] = refl
  due_item_shape (it ∷ is) = refl

  due_frames_shape : (b : Option Call) (fs : List Frame) → due_frames (shape P) b fs ≡ due_frames P b fs
  due_frames_shape (Some call) fs = refl
  due_frames_shape None [] = refl
  due_frames_shape None (f ∷ fs) = due_item_shape f.control

  pub due_shape : (o : Option Goroutine) → due (shape P) o ≡ due P o
  due_shape None = refl
  due_shape (Some go) = due_frames_shape go.begin go.frames

  pub step_shape : (c : Config) (e : Event) → step (shape P) c e ≡ step P c e
  unfolding step
  step_shape c (Step zero k p q) = refl
  step_shape c (Step (suc i) k zero zero) = ap (option_map (arrive c i)) (alone_shape c i k (slice_get c.goroutines i))
  step_shape c (Step (suc i) k zero (suc q)) = refl
  step_shape c (Step (suc i) k (suc j) q) =
      ap (λ o. cond (i == j) None (option_map (arrive_both c i j) o))
      (ap₂ (λ ss ts. exchange c (side_at ss k) (side_at (partner_sides ts) q)) (goroutine_shape (slice_get c.goroutines i)) (goroutine_shape (slice_get c.goroutines j)))
  step_shape c (Count zero u) = refl
  step_shape c (Count (suc i) u) = ap (λ w. option_map (arrive_one c i) (counted_at u (slice_get c.goroutines i) w)) (due_shape (slice_get c.goroutines i))
