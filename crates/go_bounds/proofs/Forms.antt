-- What every form of a statement makes, where its parts do.
use Rattle.std.proofs.Common.{ℕ, Option, Some, None, refl}
use Rattle.go_ast.specs.declared.block.StmtForm.TheOpen.{StmtForm-F}
use Rattle.go_meaning.specs.Programs.{Parts}
use Rattle.go_types.specs.declared.walk.Position.{Position}
use Rattle.go_types.specs.Walking.{Walking}
use Rattle.go_types.specs.Bodies.{CaseParts, CommParts, BlockParts, Checks, FormChecks, other_of, first_of, loop_layer, branch_layer, form_layer}
use Rattle.go_bounds.specs.Known.{Each}
use Rattle.go_bounds.proofs.Naming.{Perhaps}
use Rattle.go_bounds.proofs.Plain.{IsFit}
use Rattle.go_bounds.proofs.Making.{MakesForm, MakesStmt, MakesBlock}
use Rattle.go_bounds.proofs.Clauses.{MakesCase, MakesComm}
use Rattle.go_bounds.proofs.Layers as layers
use Rattle.go_bounds.proofs.Layers.{Makes, BlockT, OtherStands, First, FormT, makes_then, makes_done}

module _ (P : Parts) (first : ℕ) where
  pub form_makes : (c : FormChecks) → ((at : ℕ) (p : Position) (m : ℕ) → Makes P first m (c at p) (FormT P first p m)) → MakesForm P first c
  form_makes c h = record { makes = λ at p m s r. (h at p m).makes s r }

  pub block_makes : {b : Walking ℕ} → MakesBlock P first b → (m : ℕ) → Makes P first m b (BlockT P first m)
  block_makes h m = record { makes = λ s r. h.makes m s r }

  module _ (B C M O S : Type 0) (block : B → BlockParts) (case : C → CaseParts) (comm : M → CommParts) (other : O → Walking ℕ) (stmt : S → Checks)
      (goodB : B → Type 0) (goodC : C → Type 0) (goodM : M → Type 0) (goodO : O → Type 0) (goodS : S → Type 0)
      (blocks : (b : B) → goodB b → MakesBlock P first (block b).list) (cases : (c : C) → goodC c → MakesCase P first (case c)) (comms : (c : M) → goodM c → MakesComm P first (comm c))
      (others : (o : O) → goodO o → MakesBlock P first (other o)) (stmts : (s : S) → goodS s → MakesStmt P first (stmt s)) where
    -- what the parts of a form have to be
    abbrev pub Given : {F : Type 0} → StmtForm-F F B C M O S → Type 0
    Given (StmtForm-F.Block b) = goodB b
    Given (StmtForm-F.If f e b o) = Perhaps goodS f × goodB b × Perhaps goodO o
    Given (StmtForm-F.For f e g b) = Perhaps goodS f × Perhaps goodS g × goodB b
    Given (StmtForm-F.Range ns e b) = goodB b
    Given (StmtForm-F.Switch f e left cs) = Perhaps goodS f × Each goodC cs
    Given (StmtForm-F.Select left ms) = Each goodM ms
    Given (StmtForm-F.Label n s) = goodS s
    Given x = Unit {0}

    other_made : (m : ℕ) (o : Option O) → Perhaps goodO o → Makes P first m (other_of B C M O S block case comm other stmt o) (OtherStands P first m)
    other_made m None g = makes_done P first m None (λ S n. record { nests = λ d le. refl })
    other_made m (Some o) g =
        makes_then P first m (block_makes (others o g) m) (λ l. makes_done P first m (Some l) (λ S to a h. record { nests = h.nests }))

    first_made : (m : ℕ) (o : Option S) → Perhaps goodS o → Makes P first m (first_of S stmt o) (First P first)
    first_made m o g = layers.makes_first P first S stmt goodS stmts m o g

    loop_made : {F : Type 0} (x : StmtForm-F F B C M O S) (at : ℕ) (p : Position) (m : ℕ) → Given x → IsFit P first m x → Makes P first m (loop_layer B C M O S block case comm other stmt x at p) (FormT P first p m)
    loop_made (StmtForm-F.For f e g b) at p m h fit =
        layers.makes_scoped P first m (layers.makes_for P first m e p (first_made m f h.0) (layers.makes_last P first m (first_made m g h.1)) (layers.makes_repeated P first m p.label (block_makes (blocks b h.2) _)))
    loop_made (StmtForm-F.Range ns e b) at p m h fit =
        layers.makes_scoped P first m (layers.makes_range P first m at ns e p (layers.makes_repeated P first m p.label (block_makes (blocks b h) _)))
    loop_made x at p m h fit = layers.makes_flat P first m at p x fit

    branch_made : {F : Type 0} (x : StmtForm-F F B C M O S) (at : ℕ) (p : Position) (m : ℕ) → Given x → IsFit P first m x → Makes P first m (branch_layer B C M O S block case comm other stmt x at p) (FormT P first p m)
    branch_made (StmtForm-F.If f e b o) at p m h fit =
        layers.makes_scoped P first m (layers.makes_if P first m e p (first_made m f h.0) (block_makes (blocks b h.1) m) (other_made m o h.2))
    branch_made (StmtForm-F.Switch f e left cs) at p m h fit =
        layers.makes_scoped P first m (layers.makes_switch P first C case goodC cases m at p e cs h.1 (first_made m f h.0))
    branch_made x at p m h fit = loop_made x at p m h fit

    form_made : {F : Type 0} (x : StmtForm-F F B C M O S) (at : ℕ) (p : Position) (m : ℕ) → Given x → IsFit P first m x → Makes P first m (form_layer B C M O S block case comm other stmt x at p) (FormT P first p m)
    form_made (StmtForm-F.Block b) at p m h fit = layers.makes_block_at P first m (block b).left p (block_makes (blocks b h) m)
    form_made (StmtForm-F.Label n s) at p m h fit = layers.makes_label P first m n p (stmt s) (stmts s h)
    form_made (StmtForm-F.Select left ms) at p m h fit = layers.makes_select P first M comm goodM comms m at p ms fit h
    form_made x at p m h fit = branch_made x at p m h fit

    pub layer_made : {F : Type 0} (x : StmtForm-F F B C M O S) → Given x → ((m : ℕ) → IsFit P first m x) → MakesForm P first (form_layer B C M O S block case comm other stmt x)
    layer_made x h fit = form_makes _ (λ at p m. form_made x at p m h (fit m))
