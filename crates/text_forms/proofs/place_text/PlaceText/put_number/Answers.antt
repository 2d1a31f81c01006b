use Rattle.std.proofs.Common.{◌≡◌, ℕ, ◌^◌, ◌<◌, ◌≤◌, ap, arith, lit<, length, length-append, decimal, drop, length-drop}
use Rattle.std.proofs.lemmas.Fmt.{length-decimal-le}
use Rattle.text_forms.proofs.place_text.PlaceText.put_number.Goals as goal

short : (n : ℕ) → n < 2 ^ 32 → length (decimal n) ≤ 10
short n h = length-decimal-le 10 n (lit< tt) (omega arith) (omega arith)

pub write_digits-self-inside-requires : goal.write_digits-self-inside-requires
write_digits-self-inside-requires c =
    let from : c.from.result ≡ c.args.number = cc in
    let few : c.args.number < 2 ^ 32 = c.ranges.number.fits in
    let s = short c.from.result (omega (arith, from, few)) in
    let n = length-drop c.self.inside.start c.self.inside.bytes in
    let v = ap length c.self.view_is in
    let r : length c.args.self.now ≤ 30 = c.requires in
    omega (arith, s, n, v, r)

pub returns-clause-short : goal.returns-clause-short
returns-clause-short c =
    let from : c.from.result ≡ c.args.number = cc in
    let few : c.args.number < 2 ^ 32 = c.ranges.number.fits in
    let s = short c.from.result (omega (arith, from, few)) in
    let w = ap length c.write_digits-self-inside.ensures.written in
    let v = ap length c.self.view_is in
    let n = length-append (decimal c.from.result) (drop c.self.inside.start c.self.inside.bytes) in
    omega (arith, s, w, v, n)
