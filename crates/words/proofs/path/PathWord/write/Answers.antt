use Rattle.std.proofs.Common.{◌≡◌, ℕ, ◌+◌, ◌*◌, true, take, sym, ap, ◌∙◌, arith}
use Rattle.std.proofs.lemmas.List.{length-take-le}
use Rattle.words.specs.declared.path.PathWord.{PathWord}
use Rattle.std.proofs.lemmas.Bool.{and_from}
use Rattle.words.specs.Kinds.{kind_number, suits}
use Rattle.words.specs.Layout.{with_fields}
use Rattle.words.specs.Words.{meaning, meaning_of, word_of, lawful?}
use Rattle.words.proofs.Codec.{path_small, padded_at, packed_padded, read_back, tail_small}
use Rattle.words.proofs.path.PathWord.write.Goals as goal

pub packed-requires : goal.packed-requires
packed-requires c =
    let w = c.args.self.now in
    let p = w.path in (
      omega arith,
      (
        λ k h. let e = padded_at p.sites p.len (omega arith) p.padded k h in omega (arith, e, path_small (take p.len p.sites) p.lawful k),
        tail_small w.kind p.len w.tail w.suited,
      ),
    )

lawful : (p : PathWord) → lawful? (meaning_of p) ≡ true
lawful p =
    let e = length-take-le p.path.len p.path.sites (omega arith) in
    and_from _ _ p.path.lawful (ap (λ (n : ℕ). suits p.kind n p.tail) e ∙ p.suited)

value : (p : PathWord) (w : ℕ) → w ≡ with_fields (kind_number p.kind * 8 + p.path.len) p.path.sites * 128 + p.tail → w ≡ word_of (meaning_of p)
value p w h = h ∙ sym (packed_padded (kind_number p.kind) p.path.sites p.path.len p.tail (omega arith) p.path.padded)

pub returns : goal.returns
returns c =
    let v = value c.args.self.now c.packed.result (simp (c.packed.ensures, c.number.ensures.value)) in
    record { value = v; back = ap meaning v ∙ read_back (meaning_of c.args.self.now) (lawful c.args.self.now) }
