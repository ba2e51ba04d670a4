use Rattle.std.proofs.Common.{◌≡◌, ℕ, ◌+◌, ◌<◌, List, length, get_or, drop, Some, None, Option, sym, ap, ◌∙◌, arith}
use Rattle.std.proofs.lemmas.List.{at_drop_more, at_drop_all}
use Rattle.rolgevin.specs.Numbers.{digit_behind, go_on, number_on}
use Rattle.rolgevin.proofs.numbers.number.Goals as goal

module _ (base n : ℕ) (bs : List ℕ) (i : ℕ) (h : i < length bs) (o : Option ℕ) (e : o ≡ digit_behind base n (get_or bs i 0)) where
  step : number_on base n (drop i bs) ≡ go_on o (λ m. number_on base m (drop (i + 1) bs))
  step = at_drop_more (number_on base n) bs i 0 h ∙ ap (λ (x : Option ℕ). go_on x (λ m. number_on base m (drop (i + 1) bs))) (sym e)

pub loop-byte-preserved : goal.loop-byte-preserved
loop-byte-preserved c =
    sym (step c.args.base c.loop-byte.value c.args.bytes.now c.loop-byte.byte-index (omega arith) (Some c.in_ok-value.value) c.in_ok-value.ensures)
    ∙ c.loop-byte.invariant

pub returns-in_err-value : goal.returns-in_err-value
returns-in_err-value c =
    c.from_residual.ensures
    ∙ sym (step c.args.base c.loop-byte.value c.args.bytes.now c.loop-byte.byte-index (omega arith) None c.in_err-value.ensures)
    ∙ c.loop-byte.invariant

pub returns : goal.returns
returns c = sym (at_drop_all (number_on c.args.base c.loop-byte.value) c.args.bytes.now c.loop-byte.byte-index (omega arith)) ∙ c.loop-byte.invariant
