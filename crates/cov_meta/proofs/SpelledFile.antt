-- Reading a meta file and its spelling.
use Rattle.std.proofs.Common.{◌≡◌, ℕ, List, [], ◌∷◌, length, Ok, refl, sym, ap, ◌∙◌, subst}
use Rattle.std.specs.Prelude.{map, nat_lt}
use Rattle.std.proofs.lemmas.Bool.{ltb-false, le-ltb}
use Rattle.std.proofs.lemmas.List.{length-map}
use Rattle.cov_outside.specs.declared.limit.Which.TheVariants.{DataBytes}
use Rattle.cov_bytes.specs.Many.{many}
use Rattle.cov_meta.specs.declared.fault.MetaFault.TheVariants.{Limit}
use Rattle.cov_meta.specs.declared.entries.Width.TheVariants.{Eight}
use Rattle.cov_meta.specs.declared.entries.OffsetField.{OffsetField}
use Rattle.cov_meta.specs.declared.entries.Entry.{Entry}
use Rattle.cov_meta.specs.declared.header.Header.{Header}
use Rattle.cov_meta.specs.declared.meta.MetaPackage.{MetaPackage}
use Rattle.cov_meta.specs.declared.meta.MetaFile.{MetaFile}
use Rattle.cov_meta.specs.Each.{each}
use Rattle.cov_meta.specs.Header.{header_at}
use Rattle.cov_meta.specs.Entries.{offset_at, length_at, entries_at}
use Rattle.cov_meta.specs.File.{whole_allowance, package_at, packages_at, file_at, meta_of}
use Rattle.cov_meta.specs.Spelling.{InTurn, IsFixed, IsBlob, Spells}
use Rattle.cov_meta.proofs.Bind.{bind_ok, same_ok, passed}
use Rattle.cov_meta.proofs.SpelledOffsets.{offsets_spell, offsets_read, places_of, lengths_spell, lengths_read}
use Rattle.cov_meta.proofs.SpelledPackage.{zipped_length}
use Rattle.cov_meta.proofs.SpelledPackages.{AllFit, Says, packages_spell, packages_read, entries_of, said_offsets, said_sizes}
use Rattle.cov_meta.proofs.SpelledHeader.{Head, header_spells, header_reads}

-- the offsets that the places of entries have
places_offsets : (entries : List Entry) → map (λ p. p.offset) (map (λ e. e.place) entries) ≡ map (λ e. e.place.offset) entries
places_offsets [] = refl
places_offsets (e ∷ es) = ap (λ (ns : List ℕ). e.place.offset ∷ ns) (places_offsets es)

-- what is read is spelled
pub file_spells : (bytes : List ℕ) (file : MetaFile) → meta_of bytes ≡ Ok file → Spells bytes file
unfolding meta_of file_at entries_at packages_at
file_spells bytes file e =
    let test = passed (nat_lt 268435456 (length bytes)) (Limit DataBytes) (file_at bytes) file e in
    let header = bind_ok (header_at bytes 0) _ _ test.1 in
    let entries = bind_ok (entries_at header.0.0.entries bytes header.0.1) _ _ header.2 in
    let places = bind_ok (many (offset_at Eight bytes) header.0.0.entries header.0.1) _ _ entries.1 in
    let packages = bind_ok (packages_at bytes entries.0.0) _ _ entries.2 in
    let list = bind_ok (each (package_at bytes) entries.0.0 whole_allowance) _ _ packages.1 in
    let h = header_spells bytes header.0.0 header.0.1 header.1 in
    let head = h.0 in
    let o = offsets_spell Eight bytes header.0.0.entries header.0.1 places.0.0 places.0.1 places.1 in
    let l = lengths_spell bytes places.0.0 places.0.1 entries.0.0 entries.0.1 places.2 in
    let p = packages_spell bytes entries.0.0 whole_allowance list.0.0 list.0.1 list.1 in
    let list_is : list.0.0 ≡ packages.0 = same_ok _ _ list.2 in
    let blob_offsets : map (λ q. q.offset) places.0.0 ≡ map (λ b. b.offset) p.blobs =
    ap (λ (qs : List OffsetField). map (λ q. q.offset) qs) (sym l.0) ∙ places_offsets entries.0.0 ∙ said_offsets entries.0.0 p.blobs p.said in
    let offsets = subst (λ (xs : List ℕ). InTurn (IsFixed 8 bytes) 56 xs places.0.1) blob_offsets (subst (λ (n : ℕ). InTurn (IsFixed 8 bytes) n (map (λ q. q.offset) places.0.0) places.0.1) h.1 o.1) in
    let lengths = subst (λ (xs : List ℕ). InTurn (IsFixed 8 bytes) places.0.1 xs entries.0.1) (said_sizes entries.0.0 p.blobs p.said) l.1 in
    let counted : header.0.0.entries ≡ length list.0.0 =
    sym o.0 ∙ ap length (sym l.0) ∙ length-map entries.0.0 (λ e. e.place) ∙ zipped_length Says entries.0.0 p.blobs p.said ∙ zipped_length (IsBlob bytes) p.blobs list.0.0 p.are_blobs in
    let made : List MetaPackage → MetaFile = λ ps. record { hash = header.0.0.hash; meta = record { mode = header.0.0.mode; packages = ps } } in
    subst (λ (y : MetaFile). Spells bytes y) (ap made list_is ∙ same_ok _ _ packages.2)
    (record {
      blobs = p.blobs;
      lengths_at = places.0.1;
      behind = entries.0.1;
      small = ltb-false 268435456 (length bytes) test.0;
      whole_header = head.whole;
      magic = head.magic;
      version = head.version;
      count_stands = subst (λ (n : ℕ). IsFixed 8 bytes 16 n 24) counted head.count;
      hash_stands = head.hash;
      hash_whole = head.hash_whole;
      mode_stands = head.mode;
      granularity = head.granularity;
      offsets_stand = offsets;
      lengths_stand = lengths;
      packages_are = p.are_blobs;
      limits = record {
        few_packages = rw (← counted) head.few;
        few_functions = p.fit.functions;
        few_units = p.fit.units;
        few_texts = p.fit.strings;
        few_text_bytes = p.fit.bytes;
        short_texts = p.fit.short;
      };
    })

-- what is spelled is read
pub file_reads : (bytes : List ℕ) (file : MetaFile) → Spells bytes file → meta_of bytes ≡ Ok file
unfolding meta_of file_at entries_at packages_at
file_reads bytes file s =
    let h : Header = record { entries = length file.meta.packages; hash = file.hash; mode = file.meta.mode } in
    let head : Head bytes h = record { whole = s.whole_header; magic = s.magic; version = s.version; count = s.count_stands; few = s.limits.few_packages; hash = s.hash_stands; hash_whole = s.hash_whole; mode = s.mode_stands; granularity = s.granularity } in
    let o = places_of 8 bytes 56 (map (λ b. b.offset) s.blobs) s.lengths_at s.offsets_stand in
    let read = offsets_read Eight bytes 56 o.0 s.lengths_at o.1 in
    let e = entries_of o.0 s.blobs o.2 in
    let as_many : length o.0 ≡ length file.meta.packages =
    sym (length-map o.0 (λ q. q.offset)) ∙ ap length o.2 ∙ length-map s.blobs (λ b. b.offset) ∙ zipped_length (IsBlob bytes) s.blobs file.meta.packages s.packages_are in
    let places : many (offset_at Eight bytes) (length file.meta.packages) 56 ≡ Ok (o.0, s.lengths_at) = subst (λ (n : ℕ). many (offset_at Eight bytes) n 56 ≡ Ok (o.0, s.lengths_at)) as_many read in
    let lengths_stand = subst (λ (xs : List ℕ). InTurn (IsFixed 8 bytes) s.lengths_at xs s.behind) (sym e.lengths_are) s.lengths_stand in
    let lengths : each (length_at bytes) o.0 s.lengths_at ≡ Ok (e.entries, s.behind) = subst (λ (qs : List OffsetField). each (length_at bytes) qs s.lengths_at ≡ Ok (e.entries, s.behind)) e.places_are (lengths_read bytes e.entries s.lengths_at s.behind lengths_stand) in
    let fit : AllFit whole_allowance s.blobs file.meta.packages = record { functions = s.limits.few_functions; strings = s.limits.few_texts; short = s.limits.short_texts; bytes = s.limits.few_text_bytes; units = s.limits.few_units } in
    let p = packages_read bytes e.entries whole_allowance s.blobs file.meta.packages e.said s.packages_are fit in
    rw (le-ltb 268435456 (length bytes) s.small, header_reads bytes h head, places, lengths, p.1) refl

-- no bytes spell two values
pub one_value : (bytes : List ℕ) (file other : MetaFile) → Spells bytes file → Spells bytes other → file ≡ other
one_value bytes file other s t = same_ok file other (sym (file_reads bytes file s) ∙ file_reads bytes other t)
