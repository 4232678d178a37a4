-- A goroutine's side is that of its part.
use Rattle.std.proofs.Common.{◌≡◌, ℕ, zero, suc, Bool, true, false, List, [], ◌∷◌, Option, Some, None, refl, sym, ap, ◌∙◌, subst, length, drop, slice_get}
use Rattle.std.specs.Prelude.{◌||◌, option_map, if◌then◌else◌}
use Rattle.std.specs.Option.{option_or}
use Rattle.std.specs.List.{list_any}
use Rattle.std.specs.Prelude.{is_some}
use Rattle.go_meaning.specs.declared.value.Value.{Value}
use Rattle.go_meaning.specs.declared.value.Value.TheVariants as value
use Rattle.go_meaning.specs.declared.node.CommClause.{CommClause}
use Rattle.go_meaning.specs.declared.node.Comm.{Comm}
use Rattle.go_meaning.specs.declared.node.Comm.TheVariants as comm
use Rattle.go_meaning.specs.declared.node.NodeForm.{NodeForm}
use Rattle.go_meaning.specs.declared.node.NodeForm.TheVariants as node
use Rattle.go_meaning.specs.declared.item.Item.{Item}
use Rattle.go_meaning.specs.declared.item.Item.TheVariants.{Pick}
use Rattle.go_meaning.specs.declared.config.Call.{Call}
use Rattle.go_meaning.specs.declared.config.Frame.{Frame}
use Rattle.go_meaning.specs.declared.config.Goroutine.{Goroutine}
use Rattle.go_meaning.specs.Programs.{Parts, form_at}
use Rattle.go_meaning.specs.Moves.{Taken, taken}
use Rattle.go_meaning.specs.Channels.{Side, Neither, Sides, Plain, Choice, operands_of, clause_side, clause_sides, pick_operands, pick_taken, pick_sides, item_sides, control_sides, frame_sides, sides_of, side_at, is_default, partner_sides}
use Rattle.go_step.specs.Heads.{is_default as names_default, has_default, pick_default, item_default, control_head, frames_head, default_at_head, default_of_head}
use Rattle.go_step.specs.declared.parts.Part.{Part}
use Rattle.go_step.specs.Parts.{side_by, PartsFit, at_item, part_of, control_part, frames_part, goroutine_part, partner_part, FramesFit, BeginFits, GoroutineFits, frames_side, goroutine_side}
use Rattle.go_step.proofs.Calling.{if_true, if_false}
use Rattle.go_step.proofs.PartSides.{part_sides, parts_fit}

-- ---- without an item there is no side

plain_neither : (k : ℕ) → side_at (Plain Neither) k ≡ Neither
plain_neither zero = refl
plain_neither (suc k) = refl

-- ---- the frame that runs

at_head : (f : Frame) (item : Item) (rest : List Item) → f.control ≡ item ∷ rest → f ≡ at_item f f.stack item rest
at_head f item rest e = ap (λ l. record f { control = l }) e

pub control_sided : (P : Parts) (k : ℕ) (f : Frame) (fs : List Frame) (is : List Item) → f.control ≡ is → side_at (control_sides P f fs is) k ≡ side_by (control_part P k f.stack is) f fs
control_sided P k f fs [] e = plain_neither k
control_sided P k f fs (item ∷ rest) e = subst (λ (g : Frame). side_at (item_sides P item g fs rest) k ≡ side_by (part_of P item k g.stack) g fs) (sym (at_head f item rest e)) (part_sides P item k f fs rest f.stack)

control_fits : (P : Parts) (k : ℕ) (f : Frame) (is : List Item) → f.control ≡ is → PartsFit (control_part P k f.stack is) f
control_fits P k f [] e = tt
control_fits P k f (item ∷ rest) e = subst (λ (g : Frame). PartsFit (part_of P item k g.stack) g) (sym (at_head f item rest e)) (parts_fit P item k f rest f.stack)

-- ---- the goroutine

side_with : Option Part → Option Goroutine → Side
side_with None o = Neither
side_with (Some p) o = goroutine_side p o

frames_with : Option Part → List Frame → Side
frames_with None fs = Neither
frames_with (Some p) fs = frames_side p fs

by_frame : (o : Option Part) (f : Frame) (fs : List Frame) → side_by o f fs ≡ frames_with o (f ∷ fs)
unfolding frames_with
by_frame None f fs = refl
by_frame (Some p) f fs = refl

frames_sided : (P : Parts) (k : ℕ) (b : Option Call) (fs : List Frame) → side_at (frame_sides P b fs) k ≡ frames_with (frames_part P k b fs) fs
unfolding frames_with
frames_sided P k (Some call) fs = plain_neither k
frames_sided P k None [] = plain_neither k
frames_sided P k None (f ∷ fs) = control_sided P k f fs f.control refl ∙ by_frame (control_part P k f.stack f.control) f fs

goroutine_sided : (P : Parts) (k : ℕ) (o : Option Goroutine) (p : Option Part) → goroutine_part P k o ≡ p → side_at (sides_of P o) k ≡ side_with p o
unfolding side_with frames_with
goroutine_sided P k None None e = plain_neither k
goroutine_sided P k None (Some p) e = absurd cc
goroutine_sided P k (Some go) None e = frames_sided P k go.begin go.frames ∙ ap (λ p. frames_with p go.frames) e
goroutine_sided P k (Some go) (Some p) e = frames_sided P k go.begin go.frames ∙ ap (λ p. frames_with p go.frames) e

pub sided : (P : Parts) (k : ℕ) (o : Option Goroutine) (p : Part) → goroutine_part P k o ≡ Some p → side_at (sides_of P o) k ≡ goroutine_side p o
unfolding side_with
sided P k o p e = goroutine_sided P k o (Some p) e

pub sided_none : (P : Parts) (k : ℕ) (o : Option Goroutine) → goroutine_part P k o ≡ None → side_at (sides_of P o) k ≡ Neither
unfolding side_with
sided_none P k o e = goroutine_sided P k o None e

frames_fit : (P : Parts) (k : ℕ) (b : Option Call) (fs : List Frame) (p : Part) → frames_part P k b fs ≡ Some p → BeginFits p b fs
frames_fit P k (Some call) fs p e = absurd cc
frames_fit P k None [] p e = absurd cc
frames_fit P k None (f ∷ fs) p e = subst (λ o. PartsFit o f) e (control_fits P k f f.control refl)

pub part_fits : (P : Parts) (k : ℕ) (o : Option Goroutine) (p : Part) → goroutine_part P k o ≡ Some p → GoroutineFits p o
part_fits P k None p e = absurd cc
part_fits P k (Some go) p e = frames_fit P k go.begin go.frames p e

-- ---- partners

default_clause : (f : Frame) (fs : List Frame) (rest : List Item) (st : List Value) (c : Comm) (l : ℕ) (vs : List Value) → is_default (clause_side f fs rest st c l vs) ≡ names_default c
default_clause f fs rest st comm.Default l vs = refl
default_clause f fs rest st (comm.Send a b) l [] = refl
default_clause f fs rest st (comm.Send a b) l (value.Channel o ∷ []) = refl
default_clause f fs rest st (comm.Send a b) l (value.Channel o ∷ v ∷ vs) = refl
default_clause f fs rest st (comm.Send a b) l (value.Flag x ∷ vs) = refl
default_clause f fs rest st (comm.Send a b) l (value.Number i ∷ vs) = refl
default_clause f fs rest st (comm.Send a b) l (value.Text s ∷ vs) = refl
default_clause f fs rest st (comm.Receive e ts) l [] = refl
default_clause f fs rest st (comm.Receive e ts) l (value.Channel o ∷ vs) = refl
default_clause f fs rest st (comm.Receive e ts) l (value.Flag x ∷ vs) = refl
default_clause f fs rest st (comm.Receive e ts) l (value.Number i ∷ vs) = refl
default_clause f fs rest st (comm.Receive e ts) l (value.Text s ∷ vs) = refl

any_default : (f : Frame) (fs : List Frame) (rest : List Item) (st : List Value) (cs : List CommClause) (vs : List Value) → list_any is_default (clause_sides f fs rest st cs vs) ≡ has_default cs
any_default f fs rest st [] vs = refl
any_default f fs rest st (c ∷ cs) vs =
    ap (λ b. b || list_any is_default (clause_sides f fs rest st cs (drop (operands_of c.comm) vs))) (default_clause f fs rest st c.comm c.list vs)
    ∙ ap (λ b. names_default c.comm || b) (any_default f fs rest st cs (drop (operands_of c.comm) vs))

module _ (f : Frame) (fs : List Frame) (rest : List Item) where
  taken_partner : (cs : List CommClause) (o : Option Taken) → has_default cs ≡ false → partner_sides (pick_taken f fs rest cs o) ≡ pick_taken f fs rest cs o
  taken_partner cs None e = refl
  taken_partner cs (Some t) e = if_false _ (Plain Neither) _ (any_default f fs rest t.stack cs t.values ∙ e)

  taken_no_partner : (cs : List CommClause) (o : Option Taken) (k : ℕ) → has_default cs ≡ true → side_at (partner_sides (pick_taken f fs rest cs o)) k ≡ Neither
  taken_no_partner cs None k e = plain_neither k
  taken_no_partner cs (Some t) k e = ap (λ s. side_at s k) (if_true _ (Plain Neither) _ (any_default f fs rest t.stack cs t.values ∙ e)) ∙ plain_neither k

  form_partner : (form : Option NodeForm) → pick_default form ≡ false → partner_sides (pick_sides form f fs rest) ≡ pick_sides form f fs rest
  form_partner (Some (node.Select cs)) e = taken_partner cs (taken (pick_operands cs) f.stack) e
  form_partner form e = refl

  form_no_partner : (form : Option NodeForm) (k : ℕ) → pick_default form ≡ true → side_at (partner_sides (pick_sides form f fs rest)) k ≡ Neither
  form_no_partner (Some (node.Select cs)) k e = taken_no_partner cs (taken (pick_operands cs) f.stack) k e
  form_no_partner form k e = absurd cc

  item_partner : (P : Parts) (item : Item) → item_default P item ≡ false → partner_sides (item_sides P item f fs rest) ≡ item_sides P item f fs rest
  item_partner P (Pick n i) e = form_partner (form_at P n i) e
  item_partner P item e = refl

  item_no_partner : (P : Parts) (item : Item) (k : ℕ) → item_default P item ≡ true → side_at (partner_sides (item_sides P item f fs rest)) k ≡ Neither
  item_no_partner P (Pick n i) k e = form_no_partner (form_at P n i) k e
  item_no_partner P item k e = absurd cc

control_partner : (P : Parts) (f : Frame) (fs : List Frame) (is : List Item) → default_at_head P (control_head f is) ≡ false → partner_sides (control_sides P f fs is) ≡ control_sides P f fs is
control_partner P f fs [] e = refl
control_partner P f fs (item ∷ rest) e = item_partner f fs rest P item e

control_no_partner : (P : Parts) (f : Frame) (fs : List Frame) (is : List Item) (k : ℕ) → default_at_head P (control_head f is) ≡ true → side_at (partner_sides (control_sides P f fs is)) k ≡ Neither
control_no_partner P f fs [] k e = absurd cc
control_no_partner P f fs (item ∷ rest) k e = item_no_partner f fs rest P item k e

frames_partner : (P : Parts) (b : Option Call) (fs : List Frame) → default_at_head P (frames_head b fs) ≡ false → partner_sides (frame_sides P b fs) ≡ frame_sides P b fs
frames_partner P (Some call) fs e = refl
frames_partner P None [] e = refl
frames_partner P None (f ∷ fs) e = control_partner P f fs f.control e

frames_no_partner : (P : Parts) (b : Option Call) (fs : List Frame) (k : ℕ) → default_at_head P (frames_head b fs) ≡ true → side_at (partner_sides (frame_sides P b fs)) k ≡ Neither
frames_no_partner P (Some call) fs k e = absurd cc
frames_no_partner P None [] k e = absurd cc
frames_no_partner P None (f ∷ fs) k e = control_no_partner P f fs f.control k e

partner_same : (P : Parts) (o : Option Goroutine) → default_of_head P o ≡ false → partner_sides (sides_of P o) ≡ sides_of P o
unfolding default_of_head
partner_same P None e = refl
partner_same P (Some go) e = frames_partner P go.begin go.frames e

no_partner : (P : Parts) (o : Option Goroutine) (k : ℕ) → default_of_head P o ≡ true → side_at (partner_sides (sides_of P o)) k ≡ Neither
unfolding default_of_head
no_partner P None k e = absurd cc
no_partner P (Some go) k e = frames_no_partner P go.begin go.frames k e

partner_by : (P : Parts) (k : ℕ) (o : Option Goroutine) (p : Option Part) (b : Bool) → default_of_head P o ≡ b → (if b then None else goroutine_part P k o) ≡ p → side_at (partner_sides (sides_of P o)) k ≡ side_with p o
unfolding side_with
partner_by P k o None true d e = no_partner P o k d
partner_by P k o (Some p) true d e = absurd cc
partner_by P k o None false d e = ap (λ s. side_at s k) (partner_same P o d) ∙ goroutine_sided P k o None e
partner_by P k o (Some p) false d e = ap (λ s. side_at s k) (partner_same P o d) ∙ goroutine_sided P k o (Some p) e

pub partner_sided : (P : Parts) (k : ℕ) (o : Option Goroutine) (p : Part) → partner_part P k o ≡ Some p → side_at (partner_sides (sides_of P o)) k ≡ goroutine_side p o
unfolding side_with
partner_sided P k o p e = partner_by P k o (Some p) (default_of_head P o) refl e

pub partner_none : (P : Parts) (k : ℕ) (o : Option Goroutine) → partner_part P k o ≡ None → side_at (partner_sides (sides_of P o)) k ≡ Neither
unfolding side_with
partner_none P k o e = partner_by P k o None (default_of_head P o) refl e

partner_fits_by : (P : Parts) (k : ℕ) (o : Option Goroutine) (p : Part) (b : Bool) → (if b then None else goroutine_part P k o) ≡ Some p → GoroutineFits p o
partner_fits_by P k o p true e = absurd cc
partner_fits_by P k o p false e = part_fits P k o p e

pub partner_fits : (P : Parts) (k : ℕ) (o : Option Goroutine) (p : Part) → partner_part P k o ≡ Some p → GoroutineFits p o
partner_fits P k o p e = partner_fits_by P k o p (default_of_head P o) e
