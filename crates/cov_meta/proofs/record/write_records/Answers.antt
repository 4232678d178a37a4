use Rattle.std.proofs.Common.{◌≡◌, ℕ, ◌+◌, ◌-◌, List, [], ◌∷◌, ◌++◌, length, take, map, flat_map, sym, ap, subst, ◌∙◌, arith, length-append}
use Rattle.std.specs.List.{concat}
use Rattle.std.proofs.lemmas.List.{map-append}
use Rattle.std.proofs.lemmas.List.Elements.{All-more}
use Rattle.cov_bytes.specs.Writing.{uleb_of}
use Rattle.cov_bytes.specs.Intern.{index_of, with_text}
use Rattle.cov_meta.specs.Written.{UnitsFit, record_text, record_numbers, with_texts, function_texts}
use Rattle.cov_meta.proofs.Interning.{with_function, record_is, length_with_text}
use Rattle.cov_meta.proofs.Pieces.{concat_more, concat_front, map_more}
use Rattle.cov_meta.proofs.record.write_records.Goals as goal

pub overflow_cast-len : goal.overflow_cast-len
overflow_cast-len c =
    let f = c.function-item.result in
    let l = c.loop-function in
    let fs = c.args.functions.now in
    let final = with_texts c.args.table.now (flat_map function_texts c.args.functions.now) in
    let name : c.in_ok-name.name ≡ index_of l.table f.name = c.in_ok-name.ensures.index ∙ ap (index_of l.table) c.bytes-in-loop-function.ensures in
    let texts : c.intern.new.self ≡ with_text l.table f.name = c.in_ok-name.ensures.texts ∙ ap (with_text l.table) c.bytes-in-loop-function.ensures in
    let file : c.in_ok-file.file ≡ index_of (with_text l.table f.name) f.file = c.in_ok-file.ensures.index ∙ ap (index_of c.intern.new.self) c.bytes-in-loop-function-2.ensures ∙ ap (λ (ts : List (List ℕ)). index_of ts f.file) texts in
    let one : flat_map uleb_of (record_numbers c.in_ok-name.name c.in_ok-file.file f) ≡ record_text final f = record_is c.args.table.now l.table fs l.function-index c.in_ok-name.name c.in_ok-file.file f c.loop-function-test.true c.function-item.is l.invariant.texts name file in
    let whole : c.push_record.new.bytes ≡ concat (map (record_text final) (take (l.function-index + 1) fs)) =
    c.in_ok-push_record.ensures.bytes ∙ ap (λ (t : List ℕ). l.bytes ++ t) one ∙ ap (λ (t : List ℕ). t ++ record_text final f) l.invariant.bytes ∙ sym (concat_more (record_text final) fs l.function-index f c.loop-function-test.true c.function-item.is) in
    omega (arith, c.len.ensures, ap length whole, concat_front (record_text final) fs (l.function-index + 1), c.requires.small)

pub loop-function-preserved : goal.loop-function-preserved
loop-function-preserved c =
    let f = c.function-item.result in
    let l = c.loop-function in
    let fs = c.args.functions.now in
    let final = with_texts c.args.table.now (flat_map function_texts c.args.functions.now) in
    let name : c.in_ok-name.name ≡ index_of l.table f.name = c.in_ok-name.ensures.index ∙ ap (index_of l.table) c.bytes-in-loop-function.ensures in
    let texts : c.intern.new.self ≡ with_text l.table f.name = c.in_ok-name.ensures.texts ∙ ap (with_text l.table) c.bytes-in-loop-function.ensures in
    let file : c.in_ok-file.file ≡ index_of (with_text l.table f.name) f.file = c.in_ok-file.ensures.index ∙ ap (index_of c.intern.new.self) c.bytes-in-loop-function-2.ensures ∙ ap (λ (ts : List (List ℕ)). index_of ts f.file) texts in
    let both : c.intern-in-loop-function.new.self ≡ with_text (with_text l.table f.name) f.file = c.in_ok-file.ensures.texts ∙ ap (with_text c.intern.new.self) c.bytes-in-loop-function-2.ensures ∙ ap (λ (ts : List (List ℕ)). with_text ts f.file) texts in
    let one : flat_map uleb_of (record_numbers c.in_ok-name.name c.in_ok-file.file f) ≡ record_text final f = record_is c.args.table.now l.table fs l.function-index c.in_ok-name.name c.in_ok-file.file f c.loop-function-test.true c.function-item.is l.invariant.texts name file in
    let pushed : c.push_record.new.bytes ≡ l.bytes ++ record_text final f = c.in_ok-push_record.ensures.bytes ∙ ap (λ (t : List ℕ). l.bytes ++ t) one in
    let len : c.len.result - c.len-start.result ≡ length (record_text final f) = omega (arith, c.len.ensures, c.len-start.ensures, ap length pushed, length-append l.bytes (record_text final f)) in
    record {
      fits = All-more UnitsFit fs l.function-index f c.loop-function-test.true l.invariant.fits (subst UnitsFit c.function-item.is c.in_ok-push_record.ensures.fits);
      few = omega (arith, l.invariant.few, ap length both, length_with_text (with_text l.table f.name) f.file, length_with_text l.table f.name);
      texts = both ∙ ap (λ (ts : List (List ℕ)). with_text (with_text ts f.name) f.file) l.invariant.texts ∙ sym (with_function c.args.table.now fs l.function-index f c.loop-function-test.true c.function-item.is);
      bytes = pushed ∙ ap (λ (t : List ℕ). t ++ record_text final f) l.invariant.bytes ∙ sym (concat_more (record_text final) fs l.function-index f c.loop-function-test.true c.function-item.is);
      lengths = c.in_ok-push.ensures.items ∙ ap (λ (n : ℕ). l.lengths.items ++ n ∷ []) len ∙ ap (λ (ns : List ℕ). ns ++ length (record_text final f) ∷ []) l.invariant.lengths
          ∙ sym (ap (map length) (map_more (record_text final) fs l.function-index f c.loop-function-test.true c.function-item.is) ∙ map-append length (map (record_text final) (take l.function-index fs)) (record_text final f ∷ []));
    }
