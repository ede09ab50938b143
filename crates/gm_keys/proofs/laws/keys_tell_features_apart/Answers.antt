use Rattle.gm_keys.proofs.Apart.{apart}
use Rattle.gm_keys.proofs.laws.keys_tell_features_apart.Goals as goal

pub returns : goal.returns
returns c =
    let forms = c.no_value_is_a_front.ensures in
    apart (record {
      ints = forms.ints;
      longs = forms.longs;
      dates = forms.dates;
      truths = forms.truths;
      texts = forms.texts;
    }) c.big_bytes_in_order.ensures.apart
