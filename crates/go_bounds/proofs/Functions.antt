-- What a function adds.
use Rattle.std.proofs.Common.{◌≡◌, ℕ, suc, ◌+◌, ◌≤◌, Bool, true, false, List, [], ◌∷◌, ◌++◌, length, refl, sym, ap, subst, arith, length-append}
use Rattle.std.specs.Prelude.{flat_map}
use Rattle.go_ast.specs.declared.name.Name.{Name}
use Rattle.go_ast.specs.declared.block.Block.{out-Block}
use Rattle.go_ast.specs.declared.decl.Param.{Param}
use Rattle.go_ast.specs.declared.decl.Func.{Func}
use Rattle.go_meaning.specs.declared.expr.Variable.{Variable}
use Rattle.go_meaning.specs.declared.program.Function.{Function}
use Rattle.go_meaning.specs.Programs.{Parts}
use Rattle.go_meaning.specs.WellFormed.{variable, IsThere}
use Rattle.go_types.specs.declared.types.ValueType.{ValueType}
use Rattle.go_types.specs.declared.names.Meaning.TheVariants as meaning
use Rattle.go_types.specs.declared.walk.Walk.{Walk}
use Rattle.go_types.specs.Walking.{opened, closed}
use Rattle.go_types.specs.Scopes.{is_blank}
use Rattle.go_types.specs.Endings.{ended}
use Rattle.go_bounds.specs.Trees.{held, AreFit}
use Rattle.go_bodies.specs.Functions.{param_slot, bind_param, declare_param, declare_params, params_of, results_of, with_results, function_parts, function}
use Rattle.go_bounds.specs.Laws.{FunctionAdds, FunctionsAdd}
use Rattle.go_bounds.proofs.Sure.{Sure, sure_ok, sure_then, sure_any, sure_more}
use Rattle.go_bounds.proofs.Uses.{use_stays}
use Rattle.go_bounds.proofs.Calm.{Ready, Calm, Calms, calm_then, calm_done, calm_bind, known_stays, around_refl, closed_names}
use Rattle.go_bounds.proofs.Pieces.{BlockStands}
use Rattle.go_bounds.proofs.Goes.{Ends, Goes, goes_calm, goes_trans, ends_after}
use Rattle.go_bounds.proofs.Bodies.{body_makes, goes_adds}

module _ (P : Parts) (first : ℕ) where
  slot_does : (n at : ℕ) → Calms P first 0 n (param_slot at) (λ k x. IsThere P k (variable x) × (suc n ≤ k))
  slot_does n at = record {
    calms = λ s r le.
        let more : length (s.declared ++ at ∷ []) ≡ length s.declared + 1 = length-append s.declared (at ∷ []) in
        sure_ok _ (
          record {
            ready = record { known = known_stays P (length s.declared) (length (s.declared ++ at ∷ [])) (omega arith) s.names r.known; unit = r.unit; around = r.around };
            slots = omega arith;
            lists = refl;
            names = around_refl s.names;
          },
          (omega arith, omega arith),
        );
  }

  bound_does : (n m : ℕ) (b : Bool) (x : Name) (v : Variable) (t : ValueType) → n ≤ m → IsThere P m (variable v) → Calms P first 0 m (bind_param b x v t) (λ k u. n ≤ k)
  bound_does n m true x v t le h = calm_done P first 0 tt (λ k z. omega arith)
  bound_does n m false x v t le h = record {
    calms = λ s r l.
        sure_more ((calm_bind P first 0 m x (meaning.Variable v t) (λ k z. use_stays P m k z (variable v) h)).calms s r l) (λ a q. (q.0, omega (arith, q.0.slots)));
  }

  param_does : (n : ℕ) (x : Name) (t : ValueType) → Calms P first 0 n (declare_param x t) (λ k u. suc n ≤ k)
  param_does n x t = calm_then P first 0 (slot_does n x.at) (λ v m le h. bound_does (suc n) m (is_blank x.text) x v t h.1 h.0)

  params_do : (n : ℕ) (ps : List Param) (ts : List ValueType) → length ps ≤ length ts → Calms P first 0 n (declare_params ps ts) (λ k u. length ps + n ≤ k)
  params_do n [] ts le = calm_done P first 0 tt (λ k z. omega arith)
  params_do n (p ∷ ps) [] le = absurd (omega arith)
  params_do n (p ∷ ps) (t ∷ ts) le =
      calm_then P first 0 (param_does n p.name t) (λ u m l h. record {
        calms = λ s r z.
            sure_more ((params_do m ps ts (omega arith)).calms s r z) (λ a q. (q.0, omega (arith, q.1, h)));
      })

  -- the parts of a function, in a walk of its own
  record PartsMade (s : Walk) (f : Function) (t : Walk) : Type 0 where
    goes : Goes P first 0 0 0 s t
    params : f.params ≤ f.slots
    slots : f.slots ≡ length t.declared
    block : (S : ℕ) → Ends P S (length s.lists) t → BlockStands P S 0 f.body (length s.lists) (length t.lists)

  parts_made : (f : Func) (s t u : Walk) (l : ℕ) (a : Walk) → a ≡ u → Calm P first 0 s t → length f.params + 0 ≤ length t.declared → Goes P first 0 0 0 t u
      → ((S : ℕ) → Ends P S (length t.lists) u → BlockStands P S 0 l (length t.lists) (length u.lists))
      → PartsMade s (record { name = f.name.text; params = length f.params; results = length a.results; slots = length a.declared; body = l }) a
  parts_made f s t u l a e h few g b =
      subst (λ (w : Walk). PartsMade s (record { name = f.name.text; params = length f.params; results = length w.results; slots = length w.declared; body = l }) w) (sym e)
      (record {
        goes = goes_trans P first 0 0 0 s t u (goes_calm P first 0 s t h) g;
        params = omega (arith, few, g.slots);
        slots = refl;
        block = λ S ends. subst (λ n. BlockStands P S 0 l n (length u.lists)) (ap length h.lists) (b S (ends_after P first S (length s.lists) (length t.lists) u (omega (arith, ap length h.lists)) ends));
      })

  parts_sure : (f : Func) (ts : List ValueType) → length f.params ≤ length ts → AreFit P first (flat_map held (out-Block f.body).list) → (s : Walk) → Ready P first 0 s → Sure (function_parts f ts s) (λ r. PartsMade s r.0 r.1)
  unfolding function_parts
  parts_sure f ts few fit s r =
      sure_then ((params_do 0 f.params ts few).calms s r (omega arith)) (λ x q.
      sure_then ((body_makes P first (out-Block f.body).list fit).makes 0 x.1 q.0.ready) (λ y w.
      sure_then (sure_then (sure_any (ended (out-Block f.body).right y.0 y.1)) (λ u v. sure_ok {Q = λ c. c.1 ≡ y.1} (tt, y.1) refl)) (λ z e.
      sure_ok _ (parts_made f s x.1 y.1 y.0 z.1 e q.0 q.1 w.0 w.1))))

pub functions_add : FunctionsAdd
unfolding function
functions_add P f n s r k few fit is = (by (parts_sure P s.first_unit f (params_of n s) few fit (opened (with_results (results_of n s) s)) (record { known = record { packages = k.packages; own = k.own; locals = k.locals }; unit = refl; around = refl }))).holds r is
  where
    start : Walk
    start = with_results (results_of n s) s

    added : (g : Function) (t : Walk) → PartsMade P s.first_unit (opened start) g t → FunctionAdds P s g (with_results [] (closed start t))
    added g t h = record {
      adds = (let a = goes_adds P s.first_unit (opened start) t refl h.goes in record { longer = a.longer; kept = a.kept; unit = a.unit });
      names = closed_names s.names t.names h.goes.names;
      params = h.params;
      stands = λ has. (h.block g.slots (record { declared = omega (arith, h.slots); bound = has.bound; lists = has.lists })).nests (length P.lists) (omega (arith, has.bound));
    }

    by : Sure (function_parts f (params_of n s) (opened start)) (λ r. PartsMade P s.first_unit (opened start) r.0 r.1) → Sure (function f n s) (λ r. FunctionAdds P s r.0 r.1)
    by h = sure_then (sure_then h (λ x q. sure_ok {Q = λ y. FunctionAdds P s y.0 (with_results [] y.1)} (x.0, closed start x.1) (added x.0 x.1 q))) (λ y q. sure_ok _ q)
