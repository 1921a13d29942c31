use Rattle.std.specs.Prelude.{◌-◌, ◌^◌, min}
use Rattle.std.proofs.Common.{rules, ◌+◌, ◌||◌, true, [], refl, ap, subst}
use Rattle.std.specs.Io.KnownBytes.{Appends}
use Rattle.gtp_counted.specs.Streams.{WritesFront}
use Rattle.gtp_counted.proofs.Lines.{none_yet}
use Rattle.gtp_counted.proofs.Written.{front_none}
use Rattle.gtp_dump.specs.Elsewhere.{CountsElsewhere}
use Rattle.gtp_dump.proofs.decoding.tell.Goals as goal

pub returns-in_default-clause-told : goal.returns-in_default-clause-told
returns-in_default-clause-told g c =
    let before = c.args.before in
    let shown = c.in_ok-shown-in-Datagram.shown in
    let dumped = c.in-Datagram.dumped in
    let counted : CountsElsewhere shown.faulty dumped.plane dumped.octets.items c.count_elsewhere-elsewhere.result =
    subst (λ octets. CountsElsewhere shown.faulty dumped.plane octets c.count_elsewhere-elsewhere.result) c.deref.ensures.value c.count_elsewhere-elsewhere.ensures in
    let out = g.W.Write.contents in
    let written : Appends (out c.args.out.now.inner) (out c.write_all.new.self.inner) c.deref-in-Datagram.result.now = search rules in
    record {
      text = shown.text.items;
      errors = [];
      tells = rw c.in-Datagram.is (record {
        faulty = shown.faulty;
        elsewhere = c.count_elsewhere-elsewhere.result;
        shows = c.in_ok-shown-in-Datagram.ensures;
        counts = counted;
        tally = ap (λ n. record before { lines = before.lines + c.args.count; datagrams = before.datagrams + 1; faulty = before.faulty || shown.faulty; elsewhere = n }) c.saturating_add.ensures;
        error = refl;
      });
      output = subst (Appends (out c.args.out.now.inner) (out c.write_all.new.self.inner)) c.deref-in-Datagram.ensures.value written;
      error = none_yet (g.E.Write.contents c.args.err.now.inner);
    }

pub returns-in_default-write_all-clause-told : goal.returns-in_default-write_all-clause-told
returns-in_default-write_all-clause-told g c =
    let text = c.in_ok-text-in-Bad.text in
    let err = g.E.Write.contents in
    let written : Appends (err c.args.err.now.inner) (err c.write_all-in-Bad.new.self.inner) c.deref-in-Bad.result.now = search rules in
    record {
      text = [];
      errors = text.items;
      tells = rw c.in-Bad.is (record { tally = refl; output = refl; error = c.in_ok-text-in-Bad.ensures });
      output = none_yet (g.W.Write.contents c.args.out.now.inner);
      error = subst (Appends (err c.args.err.now.inner) (err c.write_all-in-Bad.new.self.inner)) c.deref-in-Bad.ensures.value written;
    }

pub returns-in-Nothing-clause-told : goal.returns-in-Nothing-clause-told
returns-in-Nothing-clause-told g c = record {
  text = [];
  errors = [];
  tells = rw c.in-Nothing.is (record { tally = refl; output = refl; error = refl });
  output = none_yet (g.W.Write.contents c.args.out.now.inner);
  error = none_yet (g.E.Write.contents c.args.err.now.inner);
}

pub returns-in-Err-clause-front : goal.returns-in-Err-clause-front
returns-in-Err-clause-front g c any =
    let before = c.args.before in
    let shown = c.in_ok-shown-in-Datagram.shown in
    let dumped = c.in-Datagram.dumped in
    let counted : CountsElsewhere shown.faulty dumped.plane dumped.octets.items c.count_elsewhere-elsewhere.result =
    subst (λ octets. CountsElsewhere shown.faulty dumped.plane octets c.count_elsewhere-elsewhere.result) c.deref.ensures.value c.count_elsewhere-elsewhere.ensures in
    let out = g.W.Write.contents in
    let err = g.E.Write.contents c.args.err.now.inner in
    record {
      after = record before { lines = before.lines + c.args.count; datagrams = before.datagrams + 1; faulty = before.faulty || shown.faulty; elsewhere = min (before.elsewhere + c.count_elsewhere-elsewhere.result) (2 ^ 64 - 1) };
      text = shown.text.items;
      errors = [];
      tells = rw c.in-Datagram.is (record { faulty = shown.faulty; elsewhere = c.count_elsewhere-elsewhere.result; shows = c.in_ok-shown-in-Datagram.ensures; counts = counted; tally = refl; error = refl });
      output = subst (WritesFront (out c.args.out.now.inner) (out c.write_all.new.self.inner)) c.deref-in-Datagram.ensures.value c.in-Err.ensures.front;
      error = front_none err err [] refl;
    }

pub returns-in-Err-write_all-clause-front : goal.returns-in-Err-write_all-clause-front
returns-in-Err-write_all-clause-front g c any =
    let before = c.args.before in
    let text = c.in_ok-text-in-Bad.text in
    let out = g.W.Write.contents c.args.out.now.inner in
    let err = g.E.Write.contents in
    record {
      after = record before { lines = before.lines + c.args.count; bad = true };
      text = [];
      errors = text.items;
      tells = rw c.in-Bad.is (record { tally = refl; output = refl; error = c.in_ok-text-in-Bad.ensures });
      output = front_none out out [] refl;
      error = subst (WritesFront (err c.args.err.now.inner) (err c.write_all-in-Bad.new.self.inner)) c.deref-in-Bad.ensures.value c.in-Err-write_all.ensures.front;
    }
