-- The records that are written spell the functions.
use Rattle.std.proofs.Common.{◌≡◌, ℕ, ◌+◌, ◌<◌, ◌≤◌, ◌^◌, Bool, true, false, not, List, [], ◌∷◌, ◌++◌, length, drop, map, flat_map, All, refl, ◌∙◌, arith, append_assoc}
use Rattle.std.specs.Prelude.{◌==◌}
use Rattle.std.specs.List.{concat, AllZip}
use Rattle.std.proofs.lemmas.List.Elements.{All-head, All-tail, All-append, All-cons, All-nil}
use Rattle.cov_bytes.specs.Intern.{index_of}
use Rattle.cov_bytes.specs.Writing.{uleb_of}
use Rattle.cov_meta.specs.declared.meta.MetaFunction.{MetaFunction}
use Rattle.cov_meta.specs.Hash.{flag_number}
use Rattle.cov_meta.specs.Spelling.{unit_numbers, IsFunction}
use Rattle.cov_meta.specs.Written.{UnitsFit, record_numbers, record_text, offsets_from}
use Rattle.cov_meta.proofs.Interning.{HasBoth, text_at_index}
use Rattle.cov_meta.proofs.Stands.{BaseLaws, behind, ulebs}

flag_small : (b : Bool) → flag_number b < 2 ^ 32
flag_small true = omega arith
flag_small false = omega arith

flag_back : (b : Bool) → b ≡ not (flag_number b == 0)
flag_back true = refl
flag_back false = refl

pub function_stands : BaseLaws → (texts : List (List ℕ)) (bytes rest : List ℕ) (at : ℕ) (f : MetaFunction) → length texts < 2 ^ 32 → length f.units < 2 ^ 32 → UnitsFit f → HasBoth texts f
    → drop at bytes ≡ record_text texts f ++ rest → IsFunction texts bytes at f
unfolding record_text
function_stands laws texts bytes rest at f few units fit has here =
    let name_small : index_of texts f.name < 2 ^ 32 = omega (arith, has.0) in
    let file_small : index_of texts f.file < 2 ^ 32 = omega (arith, has.1) in
    let tail = All-append (λ n. n < 2 ^ 32) (flat_map unit_numbers f.units) (flag_number f.literal ∷ []) fit (All-cons (λ n. n < 2 ^ 32) (flag_number f.literal) [] (flag_small f.literal) (All-nil (λ n. n < 2 ^ 32))) in
    let small = All-cons (λ n. n < 2 ^ 32) (length f.units) (index_of texts f.name ∷ index_of texts f.file ∷ (flat_map unit_numbers f.units ++ flag_number f.literal ∷ [])) units
    (All-cons (λ n. n < 2 ^ 32) (index_of texts f.name) (index_of texts f.file ∷ (flat_map unit_numbers f.units ++ flag_number f.literal ∷ [])) name_small (All-cons (λ n. n < 2 ^ 32) (index_of texts f.file) (flat_map unit_numbers f.units ++ flag_number f.literal ∷ []) file_small tail)) in
    record {
      name_number = index_of texts f.name;
      file_number = index_of texts f.file;
      flag = flag_number f.literal;
      next = at + length (flat_map uleb_of (record_numbers (index_of texts f.name) (index_of texts f.file) f));
      numbers_stand = ulebs laws bytes (record_numbers (index_of texts f.name) (index_of texts f.file) f) rest at _ small refl here;
      name_is = text_at_index texts f.name has.0;
      file_is = text_at_index texts f.file has.1;
      literal_is = flag_back f.literal;
    }

-- all records, each where its offset says
pub functions_stand : BaseLaws → (texts : List (List ℕ)) (bytes rest : List ℕ) (start first : ℕ) (fs : List MetaFunction) → length texts < 2 ^ 32 → All (λ f. length f.units ≤ 1048576) fs → All UnitsFit fs → All (HasBoth texts) fs
    → drop (start + first) bytes ≡ concat (map (record_text texts) fs) ++ rest
    → AllZip (λ offset f. IsFunction texts bytes (start + offset) f) (offsets_from first (map length (map (record_text texts) fs))) fs
functions_stand laws texts bytes rest start first [] few units fit has here = tt
functions_stand laws texts bytes rest start first (f ∷ fs) few units fit has here =
    let parts : drop (start + first) bytes ≡ record_text texts f ++ (concat (map (record_text texts) fs) ++ rest) = here ∙ append_assoc (record_text texts f) (concat (map (record_text texts) fs)) rest in
    let short = All-head (λ g. length g.units ≤ 1048576) f fs units in (
      function_stands laws texts bytes (concat (map (record_text texts) fs) ++ rest) (start + first) f few (omega arith) (All-head UnitsFit f fs fit) (All-head (HasBoth texts) f fs has) parts,
      functions_stand laws texts bytes rest start (first + length (record_text texts f)) fs few (All-tail (λ g. length g.units ≤ 1048576) f fs units) (All-tail UnitsFit f fs fit) (All-tail (HasBoth texts) f fs has)
          (behind bytes (record_text texts f) (concat (map (record_text texts) fs) ++ rest) (start + first) (start + (first + length (record_text texts f))) (omega arith) parts),
    )
