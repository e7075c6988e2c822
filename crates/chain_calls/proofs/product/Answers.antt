-- `product` answers the trimmed product of the trimmed inputs, or refuses by their trimmed lengths.
use Rattle.std.proofs.Common.{◌≡◌, ◌+◌, ◌-◌, ◌<◌, ◌≤◌, length, arith, le-ltb, lt-ltb, rules}
use Rattle.chain.specs.Answer.{given}
use Rattle.chain.proofs.Calls.{kept-length, length-given, product_trims}
use Rattle.chain_calls.proofs.product.Goals as goal

pub overflow_add-trimmed_length : goal.overflow_add-trimmed_length
overflow_add-trimmed_length c =
    let f = c.args.f in
    let g = c.args.g in
    let f_words = c.in_ok-f_words.ensures in
    let g_words = c.in_ok-g_words.ensures in
    let f-length : c.trimmed_length.result ≡ length (given f.elements f.length) - 1 = kept-length f.elements f.length (search rules) c.trimmed_length.ensures f_words.1 in
    let g-length : c.trimmed_length-2.result ≡ length (given g.elements g.length) - 1 = kept-length g.elements g.length (search rules) c.trimmed_length-2.ensures g_words.1 in
    omega (arith, length-given f.elements f.length (search rules), length-given g.elements g.length (search rules))

pub returns-then-trimmed_length-gt-LONGEST : goal.returns-then-trimmed_length-gt-LONGEST
returns-then-trimmed_length-gt-LONGEST c =
    let f = c.args.f in
    let g = c.args.g in
    let f_words = c.in_ok-f_words.ensures in
    let g_words = c.in_ok-g_words.ensures in
    let f-length : c.trimmed_length.result ≡ length (given f.elements f.length) - 1 = kept-length f.elements f.length (search rules) c.trimmed_length.ensures f_words.1 in
    let g-length : c.trimmed_length-2.result ≡ length (given g.elements g.length) - 1 = kept-length g.elements g.length (search rules) c.trimmed_length-2.ensures g_words.1 in
    let over : 16 < (length (given f.elements f.length) - 1) + (length (given g.elements g.length) - 1) = omega arith in
    rw (le-ltb 16 f.length f_words.0, le-ltb 16 g.length g_words.0, lt-ltb _ _ over)

pub returns : goal.returns
returns c =
    let f = c.args.f in
    let g = c.args.g in
    let f_words = c.in_ok-f_words.ensures in
    let g_words = c.in_ok-g_words.ensures in
    let f-length : c.trimmed_length.result ≡ length (given f.elements f.length) - 1 = kept-length f.elements f.length (search rules) c.trimmed_length.ensures f_words.1 in
    let g-length : c.trimmed_length-2.result ≡ length (given g.elements g.length) - 1 = kept-length g.elements g.length (search rules) c.trimmed_length-2.ensures g_words.1 in
    let short : (length (given f.elements f.length) - 1) + (length (given g.elements g.length) - 1) ≤ 16 = omega arith in
    rw (
      c.accepted.ensures,
      c.product.ensures,
      f_words.1,
      g_words.1,
      le-ltb 16 f.length f_words.0,
      le-ltb 16 g.length g_words.0,
      le-ltb _ _ short,
      product_trims 64 f.elements f.length (search rules) g.elements g.length (search rules) short,
    )
