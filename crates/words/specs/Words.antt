-- What a path word means.
use Rattle.std.specs.Prelude.{◌≡◌, ℕ, Bool, true, false, cond, ◌&&◌, List, length, take, Some, None, Ok, Err, Option, Result, ◌==◌}
use Rattle.sites.specs.declared.refusal.Refusal.{Refusal}
use Rattle.sites.specs.declared.refusal.Refusal.TheVariants.{Path as Unlawful}
use Rattle.words.specs.declared.kind.Kind.{Kind}
use Rattle.words.specs.declared.path.Path.{Path}
use Rattle.words.specs.declared.path.PathWord.{PathWord}
use Rattle.words.specs.Paths.{path?, zero_from}
use Rattle.words.specs.Kinds.{kind_number, kind_named, suits}
use Rattle.words.specs.Layout.{kind_field, count_field, site_fields, spare_field, tail_field, path_field, packed}

-- a path with its kind and tail
pub record Meaning : Type 0 where
  pub kind : Kind
  pub sites : List ℕ
  pub tail : ℕ

-- whether something has a lawful word
abbrev pub lawful? : Meaning → Bool
lawful? m = path? m.sites && suits m.kind (length m.sites) m.tail

-- the word that it is written as
abbrev pub word_of : Meaning → ℕ
word_of m = packed (kind_number m.kind) m.sites m.tail

-- the fields of a word of a kind
abbrev pub fields_as : ℕ → Kind → Meaning
fields_as w k = record { kind = k; sites = path_field w; tail = tail_field w }

abbrev pub meaning_as : ℕ → Option Kind → Option Meaning
meaning_as w None = None
meaning_as w (Some k) =
    cond (suits k (count_field w) (tail_field w) && (spare_field w == 0 && (path? (path_field w) && zero_from (site_fields w) (count_field w))))
    (Some (fields_as w k)) None

-- what a word means; nothing where it is unlawful
abbrev pub meaning : ℕ → Option Meaning
meaning w = meaning_as w (kind_named (kind_field w))

-- the sites of a path as the program holds it
abbrev pub sites_of : Path → List ℕ
sites_of p = take p.len p.sites

abbrev pub meaning_of : PathWord → Meaning
meaning_of p = record { kind = p.kind; sites = sites_of p.path; tail = p.tail }

-- what reading a word answers
abbrev pub Reads : ℕ → Result PathWord Refusal → Type 0
Reads w (Ok p) = meaning w ≡ Some (meaning_of p)
Reads w (Err e) = (meaning w ≡ None) × (e ≡ Unlawful)

-- what making a path of some sites answers
abbrev pub MakesPath : List ℕ → Result Path Refusal → Type 0
MakesPath sites (Ok p) = (path? sites ≡ true) × (sites_of p ≡ sites)
MakesPath sites (Err e) = (path? sites ≡ false) × (e ≡ Unlawful)

-- what joining a kind, a path and a tail answers
abbrev pub MakesWord : Meaning → Result PathWord Refusal → Type 0
MakesWord m (Ok p) = (lawful? m ≡ true) × (meaning_of p ≡ m)
MakesWord m (Err e) = (lawful? m ≡ false) × (e ≡ Unlawful)

-- what six fields and a length make, where the length is at most 6
abbrev pub MakesFrom : List ℕ → ℕ → Result Path Refusal → Type 0
MakesFrom fields n (Ok p) = ((path? (take n fields) && zero_from fields n) ≡ true) × (p.sites ≡ fields) × (p.len ≡ n)
MakesFrom fields n (Err e) = ((path? (take n fields) && zero_from fields n) ≡ false) × (e ≡ Unlawful)
