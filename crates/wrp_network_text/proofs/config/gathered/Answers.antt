use Rattle.std.proofs.Common.{rules}
use Rattle.wrp_network_text.proofs.config.gathered.Goals as goal

pub returns : goal.returns
returns c = record {
  epoch = search rules;
  domain = search rules;
  dmin_ns = search rules;
  dmax_ns = search rules;
  life_ns = search rules;
  reach_ns = search rules;
  quiet = search rules;
  holdover = search rules;
  wait = search rules;
  lock_wait = search rules;
  holdoff = search rules;
  lease = search rules;
  age = search rules;
  report = search rules;
  stable = search rules;
  lock_samples = search rules;
  retries = search rules;
  gap = search rules;
  announce = search rules;
  sync = search rules;
  delay = search rules;
  ring = search rules;
  track_tau = search rules;
  loop_tau = search rules;
  phase_step = search rules;
  kp = search rules;
  ki = search rules;
  bias = search rules;
  threshold = search rules;
  delock_samples = search rules;
  clock = search rules;
  nodes = search rules;
  links = search rules;
  e_db = search rules;
  tx_max = search rules;
  rx_max = search rules;
}
