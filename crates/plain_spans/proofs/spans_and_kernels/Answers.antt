use Rattle.plain_spans.proofs.Gathered.{span_means}
use Rattle.plain_spans.proofs.Kernels.{kernel_means}
use Rattle.plain_spans.proofs.Fitting.{spans_fit, kernels_fit}
use Rattle.plain_spans.proofs.spans_and_kernels.Goals as goal

pub returns-clause-span : goal.returns-clause-span
returns-clause-span c = λ k. span_means k

pub returns-clause-kernel : goal.returns-clause-kernel
returns-clause-kernel c = λ k. kernel_means k

pub returns-clause-span_fits : goal.returns-clause-span_fits
returns-clause-span_fits c = λ p. spans_fit p

pub returns-clause-kernel_fits : goal.returns-clause-kernel_fits
returns-clause-kernel_fits c = λ p. kernels_fit p
