-- Refusals of parts.
use Rattle.std.proofs.Common.{◌≡◌, Result, Err}
use Rattle.gocov_tools.specs.declared.refusal.Refusal.{Refusal}
use Rattle.gocov_tools.specs.declared.refusal.Refusal.TheVariants as refusals
use Rattle.gocov_tools.specs.Refusals.{Refuses}

-- the refusal of a part is the refusal of the whole
pub further : {A B : Type 0} (e : Refusal) (part : Result A Refusal) (all : Result B Refusal) → ((f : Refusal) → part ≡ Err f → all ≡ Err f) → Refuses e part → Refuses e all
further refusals.NotBuilt part all carry h = carry refusals.NotBuilt h
further (refusals.Usage i) part all carry h = carry (refusals.Usage i) h
further (refusals.Source path place kind) part all carry h = carry (refusals.Source path place kind) h
further (refusals.Missing path) part all carry h = carry (refusals.Missing path) h
further (refusals.Data path offset kind) part all carry h = carry (refusals.Data path offset kind) h
further (refusals.ModeClash a b c d) part all carry h = carry (refusals.ModeClash a b c d) h
further (refusals.Limit w) part all carry h = carry (refusals.Limit w) h
further refusals.Read part all carry h = tt
further refusals.NoMemory part all carry h = tt
