use Rattle.std.proofs.Common.{◌≡◌, true, List, sym, subst, ◌∙◌}
use Rattle.gm_types.specs.declared.attribute.Attribute.{Attribute}
use Rattle.gm_feature.specs.Feature.{values_fit}
use Rattle.gm_feature.specs.Writer.{values_bytes}
use Rattle.gm_feature.proofs.Fitting.{kinds}
use Rattle.gm_feature.proofs.Seen.{stored_identifier}
use Rattle.gm_feature.proofs.stored.Stored.values.Goals as goal

pub returns : goal.returns
returns c = λ f is.
    let list = c.as_slice.ensures ∙ c.attributes.ensures.list in
    record {
      fit = subst (λ (attributes : List Attribute). values_fit (kinds attributes) f.values ≡ true)
          (sym list) is.fits.each;
      same = c.values_of.ensures (f.id, values_bytes f.values)
          (stored_identifier c.args.self.now f is);
    }
