use Rattle.std.proofs.Common.{◌∙◌, sym, inr}
use Rattle.csv.specs.Reading.{default_config, strip_bom}
use Rattle.csv.specs.declared.parser.State.TheVariants as st
use Rattle.inputs.proofs.ReadLemmas.{reached-start}
use Rattle.inputs.proofs.reading.records_of.Goals as goal

pub returns : goal.returns
returns c =
    let made = c.from_reader-reader.ensures in
    let e = c.flexible.ensures in
    let h = c.has_headers.ensures in
    rw c.in_ok-new.ensures.ok (record {
      plain = rw (e, h) at made.trim ∙ c.new.ensures.trim;
      ready = inr (inr (rw (e, h) at made.has_headers, made.headers));
      config = rw (e, h) at made.config ∙ c.new.ensures.config;
      flexible = rw (e) at made.flexible;
      left = strip_bom c.args.text.now;
      source = made.source;
      reached = reached-start default_config st.StartRecord _ (strip_bom c.args.text.now) (sym made.state);
    })
