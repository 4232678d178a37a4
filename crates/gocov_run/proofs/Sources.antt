-- What follows for a module from the sources that were read.
use Rattle.std.proofs.Common.{ℕ, ◌<◌, ◌≤◌, ◌^◌, List, [], ◌∷◌, length, arith}
use Rattle.std.specs.Prelude.{All}
use Rattle.std.specs.List.{flat_map}
use Rattle.std.proofs.lemmas.List.Elements.{All-head, All-tail}
use Rattle.cov_cut.specs.Placement.{IsPlaced}
use Rattle.cov_cut.specs.Units.{cut_in, IsWithin}
use Rattle.go_ast.specs.Tokens.{HasTokens}
use Rattle.go_ast.specs.declared.file.File.{File}
use Rattle.go_ast.specs.declared.token.Token.{Token}
use Rattle.go_ast.specs.declared.«module».Package.{Package}
use Rattle.go_ast.specs.declared.«module».SourceFile.{SourceFile}
use Rattle.go_bounds.specs.Known.{Each}
use Rattle.go_bounds.specs.Modules.{IsSized, SoundModulesAreSized}
use Rattle.go_grammar.specs.Blocks.{source}
use Rattle.go_grammar.specs.Files.{SpellsWithin}
use Rattle.go_grammar.specs.Sound.{IsSound}
use Rattle.go_grammar.specs.Words.{words_of}
use Rattle.go_load.specs.Loading.{AreRead, IsTreeRead}
use Rattle.go_load.specs.Sources.{ReadsSources}
use Rattle.go_load.specs.declared.loaded.Loaded.{Loaded}

each_of : {A : Type 0} (P Q : A → Type 0) → ((x : A) → P x → Q x) → (xs : List A) → All P xs → Each Q xs
each_of P Q step [] all = tt
each_of P Q step (x ∷ xs) all = (step x (All-head P x xs all), each_of P Q step xs (All-tail P x xs all))

short : (n : ℕ) → n ≤ 4194304 → n ≤ 2 ^ 31
short n le = omega arith

sound_tree : (tree : File) → IsTreeRead ReadsSources tree → IsSound tree
sound_tree tree read = (source, read.0, read.2.0, short (length read.0) read.1, read.2.1, read.2.2)

sound_package : (p : Package) → All (λ (f : SourceFile). IsTreeRead ReadsSources f.tree) p.files → Each (λ (f : SourceFile). IsSound f.tree) p.files
sound_package p all = each_of (λ (f : SourceFile). IsTreeRead ReadsSources f.tree) (λ (f : SourceFile). IsSound f.tree) (λ f. sound_tree f.tree) p.files all

-- a module that was loaded is sized
pub loaded_is_sized : (l : Loaded) → SoundModulesAreSized → AreRead ReadsSources l → IsSized l.«module»
loaded_is_sized l law read =
    law l.«module»
    (each_of (λ (p : Package). All (λ (f : SourceFile). IsTreeRead ReadsSources f.tree) p.files) (λ (p : Package). Each (λ (f : SourceFile). IsSound f.tree) p.files) sound_package l.«module».packages read.trees)

-- a file that was read can be cut
pub file_is_cut : (tree : File) → IsTreeRead ReadsSources tree
    → ((most depth : ℕ) (text : List ℕ) (tokens : List Token) (file : File) → HasTokens text tokens → SpellsWithin source most depth file (words_of text tokens) → IsPlaced file)
    → ((most depth : ℕ) (text : List ℕ) (tokens : List Token) (file : File) → HasTokens text tokens → SpellsWithin source most depth file (words_of text tokens) → All (λ f. f.span.end ≤ length text) (flat_map cut_in file.decls))
    → ((file : File) → IsPlaced file → All (λ f. f.span.end < 2 ^ 32) (flat_map cut_in file.decls) → IsWithin file) → IsWithin tree
file_is_cut tree read placed ends within =
    let text = read.0 in
    let inside = ends 1000 1000 text read.2.0 tree read.2.1 read.2.2 in
    within tree (placed 1000 1000 text read.2.0 tree read.2.1 read.2.2) (λ k d lt. below _ (length text) (inside k d lt) read.1)
  where
    below : (n m : ℕ) → n ≤ m → m ≤ 4194304 → n < 2 ^ 32
    below n m le short = omega arith
