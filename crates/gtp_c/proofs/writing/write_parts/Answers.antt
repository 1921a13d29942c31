use Rattle.std.proofs.Common.{◌≡◌, ◌+◌, ◌++◌, ℕ, take, drop, refl, sym, subst, arith, inl, length-append}
use Rattle.gtp_c.proofs.writing.write_parts.Goals as goal

pub returns : goal.returns
returns c =
    let head = c.args.head.now in let body = c.args.body.now in let size = length-append head body in
    record {
      written = λ _. subst (λ (n : ℕ). c.put_parts.new.buffer ≡ take c.args.place c.args.buffer.now ++ ((head ++ body) ++ drop (c.args.place + n) c.args.buffer.now)) (sym size) c.put_parts.ensures;
      small = λ five. absurd (omega (arith, five));
      kept = λ some. absurd (some refl);
      told = λ _. sym size;
      untold = λ one. absurd (omega (arith, one));
      bad = (λ one. absurd (omega (arith, one)), λ bad. absurd bad);
      known = inl refl;
    }
