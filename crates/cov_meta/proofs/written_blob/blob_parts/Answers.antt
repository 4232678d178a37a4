use Rattle.std.proofs.Common.{ℕ, ◌<◌, ◌≤◌, ◌^◌, List, length, map, flat_map, All, sym, ap, subst, ◌∙◌, arith}
use Rattle.std.specs.List.{concat}
use Rattle.std.proofs.lemmas.List.Elements.{All-weaker}
use Rattle.cov_bytes.specs.Writing.{table_text}
use Rattle.cov_meta.specs.Written.{UnitsFit, texts_of, with_texts, function_texts}
use Rattle.cov_meta.specs.Parts.{NumbersAre}
use Rattle.cov_meta.proofs.BlobLemmas.{texts_all, records_by, numbers_in_turn}
use Rattle.cov_meta.proofs.written_blob.blob_parts.Goals as goal

pub write_records-requires-clause-small : goal.write_records-requires-clause-small
write_records-requires-clause-small c =
    let p = c.args.package.now in
    let texts = texts_all p c.number_names.new.table c.as_slice.result.now c.in_ok-numbers.ensures.texts c.as_slice.ensures in
    omega (arith, c.requires.small, ap (λ (rs : List (List ℕ)). length (concat rs)) (records_by p (with_texts c.number_names.new.table (flat_map function_texts c.as_slice.result.now)) c.as_slice.result.now texts c.as_slice.ensures))

pub overflow_cast-count : goal.overflow_cast-count
overflow_cast-count c =
    let p = c.args.package.now in
    let texts = c.in_ok-records.ensures.texts ∙ texts_all p c.number_names.new.table c.as_slice.result.now c.in_ok-numbers.ensures.texts c.as_slice.ensures in
    omega (arith, c.requires.texts, c.len-count.ensures, ap length texts)

pub write-requires-clause-few : goal.write-requires-clause-few
write-requires-clause-few c =
    let p = c.args.package.now in
    let texts = c.in_ok-records.ensures.texts ∙ texts_all p c.number_names.new.table c.as_slice.result.now c.in_ok-numbers.ensures.texts c.as_slice.ensures in
    omega (arith, c.requires.texts, ap length texts)

pub write-requires-clause-short : goal.write-requires-clause-short
write-requires-clause-short c =
    let p = c.args.package.now in
    let texts = c.in_ok-records.ensures.texts ∙ texts_all p c.number_names.new.table c.as_slice.result.now c.in_ok-numbers.ensures.texts c.as_slice.ensures in
    subst (All (λ t. length t < 2 ^ 32)) (sym texts) (All-weaker (λ t. length t ≤ 2048) (λ t. length t < 2 ^ 32) (λ t h. omega arith) (texts_of p) c.requires.short)

pub returns : goal.returns
returns c =
    let p = c.args.package.now in
    let texts = c.in_ok-records.ensures.texts ∙ texts_all p c.number_names.new.table c.as_slice.result.now c.in_ok-numbers.ensures.texts c.as_slice.ensures in
    let records = records_by p c.write_records.new.table c.as_slice.result.now texts c.as_slice.ensures in
    record {
      numbers = numbers_in_turn p c.in_ok-numbers.numbers (subst (λ ts. NumbersAre ts c.in_ok-numbers.numbers p) c.in_ok-numbers.ensures.texts c.in_ok-numbers.ensures.numbers);
      count = c.len-count.ensures ∙ ap length texts;
      table = c.in_ok-table.ensures ∙ ap table_text texts;
      records = c.in_ok-records.ensures.bytes ∙ ap concat records;
      fits = subst (All UnitsFit) c.as_slice.ensures c.in_ok-records.ensures.fits;
      lengths = c.in_ok-records.ensures.lengths ∙ ap (map length) records;
    }
